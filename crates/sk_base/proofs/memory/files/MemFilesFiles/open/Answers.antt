use Rattle.std.proofs.Common.{rules, arith, ◌∙◌, ap, refl, IsSome, position}
use Rattle.sk_base.specs.Memory.{has_path}
use Rattle.sk_base.proofs.FileLaws.{IsPlace, ready_file, own_file, lost_file}
use Rattle.sk_base.proofs.memory.files.MemFilesFiles.open.Goals as goal

pub invariant_of-self-in-Some : goal.invariant_of-self-in-Some
invariant_of-self-in-Some c =
    let at : IsPlace c.args.path.now c.args.self.now.files.items c.index_of-self.result
    = c.index_of-self.ensures ∙ ap (position (has_path c.args.path.now)) c.deref.ensures.value in
    let some : IsSome c.index_of-self.result = search rules in
    record { ready = λ _. some; first = own_file c.args.path.now c.args.self.now.files.items c.index_of-self.result at; within = λ x e. omega arith }

pub returns-in-Some-clause-told : goal.returns-in-Some-clause-told
returns-in-Some-clause-told c =
    let at : IsPlace c.args.path.now c.args.self.now.files.items c.index_of-self.result
    = c.index_of-self.ensures ∙ ap (position (has_path c.args.path.now)) c.deref.ensures.value in
    let some : IsSome c.index_of-self.result = search rules in
    let ready = ready_file c.args.path.now c.args.self.now.files.items c.index_of-self.result at some in
    λ _. (ready.0, ready.1, refl)

pub returns-in-None-clause-told : goal.returns-in-None-clause-told
returns-in-None-clause-told c =
    let at : IsPlace c.args.path.now c.args.self.now.files.items c.index_of-self.result
    = c.index_of-self.ensures ∙ ap (position (has_path c.args.path.now)) c.deref.ensures.value in
    λ _. lost_file c.args.path.now c.args.self.now.files.items c.index_of-self.result at (search rules)
