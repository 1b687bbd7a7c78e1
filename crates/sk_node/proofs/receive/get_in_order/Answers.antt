use Rattle.std.proofs.Common.{◌∙◌, ap, refl}
use Rattle.sk_node.proofs.Cuts.{on_err}
use Rattle.sk_node.proofs.Receiving.{open_within, got_there, nobody, gets_none, gets_heeded, gets_cut}
use Rattle.sk_node.proofs.receive.get_in_order.Goals as goal

pub add_got-requires : goal.add_got-requires
add_got-requires g c = open_within c.args.journal.now.setup c.args.journal.now.past c.args.number c.requires.linked

pub heed-requires : goal.heed-requires
heed-requires g c = record {
  there = got_there c.journals_go_by_entries.ensures c.args.journal.now c.add_got.new.self c.args.number c.args.message.now c.in_ok-kept.kept c.in_ok-kept.ensures c.in_ok-add_got.ensures.ok;
  nobody = nobody c.args.journal.now.setup c.args.journal.now.past c.args.number c.args.message.now c.deref.result.now (c.deref.ensures.value ∙ c.in_ok-receivers.ensures);
}

pub returns-in_err-receivers-clause-err : goal.returns-in_err-receivers-clause-err
returns-in_err-receivers-clause-err g c =
    on_err c.from_residual.result (gets_none c.blocks_only_add.ensures c.args.journal.now c.args.journal.now c.args.number c.args.message.now (g.A.App.lists c.args.app.now) refl)

pub returns-in_err-kept-clause-err : goal.returns-in_err-kept-clause-err
returns-in_err-kept-clause-err g c =
    on_err c.from_residual-in_err-kept.result (gets_none c.blocks_only_add.ensures c.args.journal.now c.args.journal.now c.args.number c.args.message.now (g.A.App.lists c.args.app.now) refl)

pub returns-in_err-add_got-clause-err : goal.returns-in_err-add_got-clause-err
returns-in_err-add_got-clause-err g c =
    on_err c.from_residual-in_err-add_got.result (gets_none c.blocks_only_add.ensures c.args.journal.now c.add_got.new.self c.args.number c.args.message.now (g.A.App.lists c.args.app.now) c.in_err-add_got.ensures.err)

pub returns-in_err-heed-clause-err : goal.returns-in_err-heed-clause-err
returns-in_err-heed-clause-err g c =
    on_err c.from_residual-in_err-heed.result
    (gets_cut c.journals_go_by_entries.ensures c.args.journal.now c.add_got.new.self c.heed.new.journal c.args.number c.args.message.now c.in_ok-kept.kept c.deref.result.now (g.A.App.lists c.args.app.now) (g.A.App.lists c.heed.new.app)
    c.in_ok-kept.ensures c.requires.order (c.deref.ensures.value ∙ c.in_ok-receivers.ensures) c.in_ok-add_got.ensures.ok c.in_err-heed.ensures.err)

pub returns-clause-ok : goal.returns-clause-ok
returns-clause-ok g c =
    gets_heeded c.journals_go_by_entries.ensures c.args.journal.now c.add_got.new.self c.heed.new.journal c.args.number c.args.message.now c.in_ok-kept.kept c.deref.result.now (g.A.App.lists c.args.app.now) (g.A.App.lists c.heed.new.app)
    c.in_ok-kept.ensures c.requires.order (c.deref.ensures.value ∙ c.in_ok-receivers.ensures) c.in_ok-add_got.ensures.ok c.in_ok-heed.ensures.ok
