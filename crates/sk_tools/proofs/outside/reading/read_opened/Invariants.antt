use Rattle.std.proofs.Common.{◌≡◌, ◌≤◌, ◌+◌, ◌-◌, ◌^◌, ℕ, List, length, true, Some}
use Rattle.std.specs.Prelude.{IsTrue}
use Rattle.sk_tools.specs.Outside.{IsReadTo}
use Rattle.sk_tools.proofs.outside.reading.read_opened.Given as goal

abbrev pub invariant-pieces : goal.invariant-pieces
invariant-pieces g l = record {
  ready : IsTrue (g.F.Files.is_ready l.files);
  faults : g.F.Files.faults l.files ≡ g.F.Files.faults l.fn.files;
  tells : g.F.Files.tells l.files ≡ g.F.Files.tells l.fn.files;
  contents : (at : List ℕ) → g.F.Files.content l.files at ≡ g.F.Files.content l.fn.files at;
  current : g.F.Files.current l.files ≡ g.F.Files.current l.fn.files;
  short : length l.bytes.items ≤ 2 ^ 24;
  told : g.F.Files.tells l.fn.files ≡ true → g.F.Files.place l.fn.files ≡ 0 →
      (all : List ℕ) → g.F.Files.content l.fn.files (g.F.Files.current l.fn.files) ≡ Some all →
      IsReadTo all (g.F.Files.place l.files) l.bytes.items;
}

abbrev pub decreases-pieces : goal.decreases-pieces
decreases-pieces g l = 2 ^ 24 + 1 - length l.bytes.items
