use Rattle.std.proofs.Common.{set}
use Rattle.sk_mesh.proofs.Writes.{Wrote, wrote, account, only_pushes, pushed_wrote, free_wrote}
use Rattle.sk_mesh.proofs.ends.Ends.push.Goals as goal

pub returns-clause-only : goal.returns-clause-only
returns-clause-only c =
    let x = c.index_mut.result.now in let y = c.push_to.new.pair in
    let w : Wrote c.args.self.now (account c.self.inside.number (set c.self.inside.pairs.items c.args.peer y)) c.args.peer x y =
    wrote c.self.inside.number c.self.inside.pairs.items c.args.self.now c.args.peer x y c.self.view_is c.requires.0 c.index_mut.ensures.value in
    only_pushes _ _ _ _ _ w c.push_to.ensures.way c.push_to.ensures.pops

pub returns-clause-ok : goal.returns-clause-ok
returns-clause-ok c =
    let x = c.index_mut.result.now in let y = c.push_to.new.pair in
    let w : Wrote c.args.self.now (account c.self.inside.number (set c.self.inside.pairs.items c.args.peer y)) c.args.peer x y =
    wrote c.self.inside.number c.self.inside.pairs.items c.args.self.now c.args.peer x y c.self.view_is c.requires.0 c.index_mut.ensures.value in
    let p = pushed_wrote _ _ _ _ _ w in
    rw (p.0, p.1) c.push_to.ensures.ok

pub returns-clause-full : goal.returns-clause-full
returns-clause-full c =
    let x = c.index_mut.result.now in let y = c.push_to.new.pair in
    let w : Wrote c.args.self.now (account c.self.inside.number (set c.self.inside.pairs.items c.args.peer y)) c.args.peer x y =
    wrote c.self.inside.number c.self.inside.pairs.items c.args.self.now c.args.peer x y c.self.view_is c.requires.0 c.index_mut.ensures.value in
    let p = pushed_wrote _ _ _ _ _ w in let f = free_wrote _ _ _ _ _ w in
    rw (p.0, p.1, f.0, f.1) c.push_to.ensures.full

pub returns-clause-known : goal.returns-clause-known
returns-clause-known c =
    let x = c.index_mut.result.now in let y = c.push_to.new.pair in
    let w : Wrote c.args.self.now (account c.self.inside.number (set c.self.inside.pairs.items c.args.peer y)) c.args.peer x y =
    wrote c.self.inside.number c.self.inside.pairs.items c.args.self.now c.args.peer x y c.self.view_is c.requires.0 c.index_mut.ensures.value in
    let f = free_wrote _ _ _ _ _ w in
    rw (f.0, f.1) c.push_to.ensures.known
