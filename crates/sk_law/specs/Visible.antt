-- What a step sees: the marked messages that were handed since the step before.
use Rattle.std.specs.Prelude.{ℕ, ◌==◌, nat_lt, nat_le, Bool, ◌&&◌, ◌||◌, List, [], ◌∷◌, filter, Option, Some, None, if◌then◌else◌}
use Rattle.std.specs.List.{filter_map}
use Rattle.sk_msg.specs.declared.content.Content.{Content}
use Rattle.sk_msg.specs.declared.head.Head.{Head}
use Rattle.sk_msg.specs.Heads.{head_of}
use Rattle.sk_law.specs.declared.made.Heard.{Heard}
use Rattle.sk_law.specs.declared.made.Heard.TheVariants.{Message, Answer}
use Rattle.sk_law.specs.declared.visible.Visible.{Visible}

-- by the head of the message
abbrev pub shown_with : ℕ → ℕ → ℕ → Content → Option Head → Option Visible
shown_with p place r m None = None
shown_with p place r m (Some head) =
    if head.mark == 0 then None else
    Some (record { stamp = head.stamp; peer = p; place = place; service = r; message = m })

-- a marked message that was handed
abbrev pub shown : Heard → Option Visible
shown (Message p place r m) = shown_with p place r m (head_of m)
shown (Answer service code) = None

-- by stamp, then the sender's number, then place, then receiver
abbrev pub comes_before : Visible → Visible → Bool
comes_before a b =
    nat_lt a.stamp b.stamp || (a.stamp == b.stamp
    && (nat_lt a.peer b.peer || (a.peer == b.peer
    && (nat_lt a.place b.place || (a.place == b.place && nat_lt a.service b.service)))))

-- the list with one more item, before the first that it comes before
abbrev pub insert : Visible → List Visible → List Visible
insert new [] = new ∷ []
insert new (one ∷ more) = if comes_before new one then new ∷ one ∷ more else one ∷ insert new more

-- each of these put in its place
abbrev pub sort_onto : List Visible → List Visible → List Visible
sort_onto sorted [] = sorted
sort_onto sorted (one ∷ more) = sort_onto (insert one sorted) more

-- one item after another put in its place
abbrev pub sort : List Visible → List Visible
sort items = sort_onto [] items

-- stamped below this time and not below the other
abbrev pub is_between : ℕ → ℕ → Visible → Bool
is_between from below item = nat_le from item.stamp && nat_lt item.stamp below

-- of all that was heard what a step sees that begins at `below`, where the step before began at `from`. The first step
-- begins at 0 and sees nothing
abbrev pub visible : List Heard → ℕ → ℕ → List Visible
visible heard from below = filter (is_between from below) (sort (filter_map shown heard))
