-- What an action may name, and where it stands.
use Rattle.std.specs.Prelude.{ℕ, Bool, true, false, not, ◌&&◌, ◌==◌, List, [], find, length, position, Option, Some, None, option_map, option_and_then}
use Rattle.std.specs.List.{list_any}
use Rattle.std.specs.Str.{bytes_eq}
use Rattle.sk_msg.specs.Each.{each_after}
use Rattle.sk_msg.specs.declared.service.Service.{Service}
use Rattle.sk_msg.specs.declared.service.ServiceKind.{ServiceKind}
use Rattle.sk_msg.specs.declared.service.ServiceKind.TheVariants.{Publisher, Server}
use Rattle.sk_config.specs.Applied.{is_kind}
use Rattle.sk_rules.specs.declared.place.Place.{Place}
use Rattle.sk_rules.specs.declared.place.Place.TheVariants.{Ready, Timed, On}
use Rattle.sk_rules.specs.declared.vars.Var.{Var}

-- the services and the variables of a participant
pub record ScopeValue : Type 0 where
  pub services : List Service
  pub vars : List Var

-- a service behind these: its number is its place, and its name is new
unfoldable pub is_next_own : List Service → Service → Bool
is_next_own before service = service.id == length before && not (list_any (λ other. bytes_eq other.name service.name) before)

-- services as a participant has them
unfoldable pub are_own : List Service → Bool
are_own services = each_after is_next_own [] services

-- the service of this name and of a kind that passes the test
abbrev pub find_one : (ServiceKind → Bool) → List Service → List ℕ → Option Service
find_one fits services name = find (λ service. fits service.kind && bytes_eq service.name name) services

-- its number
abbrev pub find_service : (ServiceKind → Bool) → List Service → List ℕ → Option ℕ
find_service fits services name = option_map (λ service. service.id) (find_one fits services name)

-- that of this kind
unfoldable pub service_of : ScopeValue → ServiceKind → List ℕ → Option ℕ
service_of scope kind name = find_service (λ one. is_kind one kind) scope.services name

-- that of any kind that receives something: all but publishers do
unfoldable pub receiver_of : ScopeValue → List ℕ → Option ℕ
receiver_of scope name = find_service (λ one. not (is_kind one Publisher)) scope.services name

-- the place of the variable of this name
unfoldable pub variable_of : ScopeValue → List ℕ → Option ℕ
variable_of scope name = position (λ var. bytes_eq var.name name) scope.vars

-- the server that this text names
unfoldable pub server_of : ScopeValue → Option (List ℕ) → Option ℕ
server_of scope text = option_and_then (service_of scope Server) text

-- in a script, not in the list of what is done when ready
abbrev pub is_step : Place → Bool
is_step Ready = false
is_step Timed = true
is_step (On server) = true

-- in a rule with `on`
abbrev pub is_on : Place → Bool
is_on Ready = false
is_on Timed = false
is_on (On server) = true

abbrev pub same_server : Option ℕ → Option ℕ → Bool
same_server (Some one) (Some other) = one == other
same_server (Some one) None = false
same_server None (Some other) = false
same_server None None = false

-- in a rule on this server
abbrev pub is_on_server : Place → Option ℕ → Bool
is_on_server Ready named = false
is_on_server Timed named = false
is_on_server (On server) named = same_server server named
