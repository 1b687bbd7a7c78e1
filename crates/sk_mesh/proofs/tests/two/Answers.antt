use Rattle.std.proofs.Common.{◌≡◌, ◌+◌, List, [], ◌∷◌, ◌++◌, length, map, ap, ◌∙◌, arith, length-append, Some}
use Rattle.std.specs.List.{slice_get}
use Rattle.std.specs.Option.{option_to_list, option_map}
use Rattle.std.proofs.lemmas.Option.{slice_get-map}
use Rattle.sk_mesh.specs.Places.{Account, place, IsMesh, AreOfOneMesh}
use Rattle.sk_mesh.proofs.ByPlace.{slice_get-front, slice_get-last}
use Rattle.sk_mesh.proofs.tests.two.Goals as goal

last_two : (es rest rest' : List Account) (a b : Account) → length es ≡ 2 → IsMesh (map place es) → es ≡ rest ++ b ∷ [] → rest ≡ rest' ++ a ∷ [] → AreOfOneMesh (place a) (place b)
last_two es rest rest' a b size mesh is is' =
    let k : length es ≡ length rest + 1 = ap length is ∙ length-append rest (b ∷ []) in
    let k' : length rest ≡ length rest' + 1 = ap length is' ∙ length-append rest' (a ∷ []) in
    let first : slice_get rest 0 ≡ Some a = ap (λ l. slice_get l 0) is' ∙ slice_get-last rest' a 0 (omega arith) in
    let at0 : slice_get es 0 ≡ Some a = ap (λ l. slice_get l 0) is ∙ slice_get-front rest (b ∷ []) 0 a first in
    let at1 : slice_get es 1 ≡ Some b = ap (λ l. slice_get l 1) is ∙ slice_get-last rest b 1 (omega arith) in
    mesh.joined 0 1 (place a) (place b) (λ e. omega arith) (slice_get-map place es 0 ∙ ap (option_map place) at0) (slice_get-map place es 1 ∙ ap (option_map place) at1)

pub returns : goal.returns
returns g c =
    last_two c.in_ok-ends.ends.items c.pop.new.self.items c.pop-2.new.self.items c.expect-first.result c.expect-last.result
    c.in_ok-ends.ensures.size c.in_ok-ends.ensures.mesh
    (c.pop.ensures.items ∙ ap (λ o. c.pop.new.self.items ++ option_to_list o) c.expect-last.ensures)
    (c.pop-2.ensures.items ∙ ap (λ o. c.pop-2.new.self.items ++ option_to_list o) c.expect-first.ensures)
