-- What is kept of a journal while its steps are told one after another.
use Rattle.std.specs.Prelude.{◌≡◌, ℕ, List, []}
use Rattle.std.specs.List.{filter_map}
use Rattle.sk_msg.specs.declared.entry.Entry.{Entry}
use Rattle.sk_law.specs.Readings.{got, stamp}
use Rattle.sk_law.specs.Told.{gather, heard}
use Rattle.sk_law.specs.Script.{Step, step_in}
use Rattle.sk_law.specs.Visible.{shown, sort}
use Rattle.sk_report.specs.Got.{got_at}
use Rattle.sk_report.specs.declared.walk.Walk.{Walk}

-- it has what the entries so far say
pub record IsWalked (before : List Entry) (walk : Walk) : Type 0 where
  pub messages : (peer : ℕ) → got_at walk.got peer ≡ got before peer
  pub list : walk.visible ≡ sort (filter_map shown (heard before))
  pub time : walk.stamp ≡ stamp before

-- the steps of a whole journal that begin among its first entries
abbrev pub steps_among : List Entry → List Entry → List Step
steps_among es first = gather (step_in es) [] first
