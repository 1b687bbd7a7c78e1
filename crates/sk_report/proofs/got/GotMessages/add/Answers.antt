use Rattle.std.proofs.Common.{◌≡◌, ◌<◌, ◌≤◌, ◌++◌, ◌∷◌, [], ◌∙◌, ap, length, map, arith, rules, get_or}
use Rattle.std.proofs.lemmas.List.{length-map, map-append}
use Rattle.sk_report.specs.Got.{firsts}
use Rattle.sk_report.specs.Groups.{messages_of, messages_at, with_message}
use Rattle.sk_report.proofs.Getting.{first_more, others_more}
use Rattle.sk_report.proofs.got.GotMessages.add.Goals as goal

pub returns-then-index-len : goal.returns-then-index-len
returns-then-index-len c =
    let old = c.args.self.now in
    let low : c.args.peer < length old.first.items = search rules in
    let group = c.index_mut.result.now in
    let more : messages_of c.push.new.self.items ≡ messages_of (get_or old.first.items c.args.peer group).items ++ c.args.message.now ∷ [] =
    ap messages_of c.in_ok-push.ensures.items
    ∙ map-append (λ message. message.now) group.items (c.args.message ∷ [])
    ∙ ap (λ g. messages_of g.items ++ c.args.message.now ∷ []) c.index_mut.ensures.value in
    first_more (λ g. messages_of g.items) old.first.items c.args.peer c.push.new.self group c.args.message.now (messages_at old.others) low more

pub returns : goal.returns
returns c =
    let old = c.args.self.now in
    let count : length (firsts old) ≡ length old.first.items = length-map old.first.items (λ group. messages_of group.items) in
    let past : length old.first.items ≤ c.args.peer = search rules in
    others_more (firsts old) c.args.peer c.args.message.now (messages_at old.others) (messages_at c.add.new.self) (omega (arith, count, past))
    (λ o. c.in_ok-add.ensures o ∙ ap (λ k. with_message k c.args.message.now (messages_at old.others) o) c.from.ensures)
