use Rattle.std.proofs.Common.{set}
use Rattle.sk_mesh.proofs.Writes.{Wrote, wrote, account, only_pops, popped_wrote, waiting_wrote}
use Rattle.sk_mesh.proofs.ends.Ends.pop.Goals as goal

pub returns-clause-only : goal.returns-clause-only
returns-clause-only c =
    let x = c.index_mut.result.now in let y = c.pop_from.new.pair in
    let w : Wrote c.args.self.now (account c.self.inside.number (set c.self.inside.pairs.items c.args.peer y)) c.args.peer x y =
    wrote c.self.inside.number c.self.inside.pairs.items c.args.self.now c.args.peer x y c.self.view_is c.requires.0 c.index_mut.ensures.value in
    only_pops _ _ _ _ _ w c.pop_from.ensures.way c.pop_from.ensures.pushes

pub returns-clause-some : goal.returns-clause-some
returns-clause-some c =
    let x = c.index_mut.result.now in let y = c.pop_from.new.pair in
    let w : Wrote c.args.self.now (account c.self.inside.number (set c.self.inside.pairs.items c.args.peer y)) c.args.peer x y =
    wrote c.self.inside.number c.self.inside.pairs.items c.args.self.now c.args.peer x y c.self.view_is c.requires.0 c.index_mut.ensures.value in
    let p = popped_wrote _ _ _ _ _ w in
    rw (p.0, p.1) c.pop_from.ensures.some

pub returns-clause-none : goal.returns-clause-none
returns-clause-none c =
    let x = c.index_mut.result.now in let y = c.pop_from.new.pair in
    let w : Wrote c.args.self.now (account c.self.inside.number (set c.self.inside.pairs.items c.args.peer y)) c.args.peer x y =
    wrote c.self.inside.number c.self.inside.pairs.items c.args.self.now c.args.peer x y c.self.view_is c.requires.0 c.index_mut.ensures.value in
    let p = popped_wrote _ _ _ _ _ w in let k = waiting_wrote _ _ _ _ _ w in
    rw (p.0, p.1, k.0, k.1) c.pop_from.ensures.none

pub returns-clause-known : goal.returns-clause-known
returns-clause-known c =
    let x = c.index_mut.result.now in let y = c.pop_from.new.pair in
    let w : Wrote c.args.self.now (account c.self.inside.number (set c.self.inside.pairs.items c.args.peer y)) c.args.peer x y =
    wrote c.self.inside.number c.self.inside.pairs.items c.args.self.now c.args.peer x y c.self.view_is c.requires.0 c.index_mut.ensures.value in
    let k = waiting_wrote _ _ _ _ _ w in
    rw (k.0, k.1) c.pop_from.ensures.known
