-- Which specifications and which services match.
use Rattle.std.specs.Prelude.{Bool, false, ◌&&◌, ◌||◌, ◌==◌, not, List, length, filter}
use Rattle.std.specs.List.{list_any, list_all}
use Rattle.std.specs.Str.{bytes_eq}
use Rattle.sk_msg.specs.Specs.{SpecValue}
use Rattle.sk_msg.specs.declared.label.Label.{Label}
use Rattle.sk_msg.specs.declared.label.LabelKind.{LabelKind}
use Rattle.sk_msg.specs.declared.label.LabelKind.TheVariants.{Optional, Mandatory}
use Rattle.sk_msg.specs.declared.service.Service.{Service}
use Rattle.sk_msg.specs.declared.service.ServiceKind.{ServiceKind}
use Rattle.sk_msg.specs.declared.service.ServiceKind.TheVariants.{Can, Ethernet, Lin, Publisher, Subscriber, Server, Client}

-- a mandatory label needs its key with its value on the other side; an optional one an equal value where its key is there
abbrev pub fits : List Label → LabelKind → Label → Bool
fits others Mandatory label = list_any (λ other. bytes_eq other.key label.key && bytes_eq other.value label.value) others
fits others Optional label = list_all (λ other. not (bytes_eq other.key label.key) || bytes_eq other.value label.value) others

-- each of these labels fits the others
abbrev pub all_fit : List Label → List Label → Bool
all_fit others labels = list_all (λ label. fits others label.kind label) labels

-- the topics are equal; the reader's media type is empty or the writer's; the labels of either side fit the other's
unfoldable pub match_specs : SpecValue → SpecValue → Bool
match_specs reader writer =
    bytes_eq reader.topic writer.topic
    && ((length reader.media == 0 || bytes_eq reader.media writer.media)
    && (all_fit writer.labels reader.labels && all_fit reader.labels writer.labels))

-- Both are controllers of one kind of bus, or a subscriber and a publisher, or a client and a server, whose specifications
-- match. The reader is the first of each pair, and of two controllers the first that is given.
abbrev pub match_kinds : ServiceKind → ServiceKind → SpecValue → SpecValue → Bool
match_kinds Can Can a b = match_specs a b
match_kinds Ethernet Ethernet a b = match_specs a b
match_kinds Lin Lin a b = match_specs a b
match_kinds Subscriber Publisher a b = match_specs a b
match_kinds Publisher Subscriber a b = match_specs b a
match_kinds Client Server a b = match_specs a b
match_kinds Server Client a b = match_specs b a
match_kinds _ _ a b = false

-- what one of the two gives is for the other
unfoldable pub match_services : Service → Service → Bool
match_services a b = match_kinds a.kind b.kind a.spec b.spec

-- of these services those that match the other one, in their order
abbrev pub matching : List Service → Service → List Service
matching own other = filter (λ service. match_services service other) own
