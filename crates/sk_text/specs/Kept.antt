-- What the names and the entries of a world keep, because their types do.
use Rattle.std.specs.Prelude.{ℕ, ◌^◌, ◌<◌, List, [], Option, Some, None, All, IsTrue}
use Rattle.sk_base.specs.Ranges.{is_name, is_time}
use Rattle.sk_msg.specs.Rules.{is_message}
use Rattle.sk_msg.specs.declared.content.Content.{Content}
use Rattle.sk_msg.specs.declared.content.Content.TheVariants.{Hello, Leave, NextStep, ServiceAdd, ServicesEnd, Status, Workflow, Abort, Can, Eth, Lin, LinResponse, Publish, Call, Reply, Refuse}
use Rattle.sk_msg.specs.declared.entry.Entry.{Entry}
use Rattle.sk_msg.specs.declared.entry.Entry.TheVariants.{Got, Put, Hand, State as Entered, System, Begin, Done, End, Ask, Gone, Stray, Did, Fault}
use Rattle.sk_wire.specs.Stream.{AreBytes}

-- what a message carries from service to service
abbrev pub payload_of : Content → List ℕ
payload_of (Hello name role address) = []
payload_of Leave = []
payload_of (NextStep at duration) = []
payload_of (ServiceAdd service) = []
payload_of ServicesEnd = []
payload_of (Status state until) = []
payload_of (Workflow required) = []
payload_of Abort = []
payload_of (Can head frame) = frame.payload
payload_of (Eth head payload) = payload
payload_of (Lin head frame) = frame.payload
payload_of (LinResponse head response) = response.payload
payload_of (Publish head payload) = payload
payload_of (Call head call payload) = payload
payload_of (Reply head client call payload) = payload
payload_of (Refuse reason) = []

-- a message keeps the rules of its kind, and carries bytes
pub record IsMessage (m : Content) : Type 0 where
  pub rules : IsTrue (is_message m)
  pub bytes : AreBytes (payload_of m)

-- what was sent, if anything, is a message
abbrev pub IsSent : Option Content → Type 0
IsSent (Some m) = IsMessage m
IsSent None = Unit {0}

-- an entry has numbers of its fields' widths, times in range, and messages
abbrev pub IsEntry : Entry → Type 0
IsEntry (Got peer m) = (peer < 2 ^ 32) × IsMessage m
IsEntry (Put peer m) = (peer < 2 ^ 32) × IsMessage m
IsEntry (Hand peer place service) = (peer < 2 ^ 32) × (place < 2 ^ 64) × (service < 2 ^ 32)
IsEntry (Entered state) = Unit {0}
IsEntry (System state) = Unit {0}
IsEntry (Begin step at) = (step < 2 ^ 64) × IsTrue (is_time at)
IsEntry (Done step) = step < 2 ^ 64
IsEntry (End step) = step < 2 ^ 64
IsEntry (Ask command verdict) = Unit {0}
IsEntry (Gone peer reason) = (peer < 2 ^ 32) × (reason < 2 ^ 8)
IsEntry (Stray number) = number < 2 ^ 64
IsEntry (Did service code sent) = (service < 2 ^ 32) × (code < 2 ^ 8) × IsSent sent
IsEntry (Fault limit) = limit < 2 ^ 8

-- each name is one, and each entry of each journal is one
pub record IsWorld (names : List (List ℕ)) (journals : List (List Entry)) : Type 0 where
  pub named : All (λ name. IsTrue (is_name name)) names
  pub kept : All (All IsEntry) journals
