use Rattle.std.proofs.Common.{◌≡◌, ◌∙◌, ap, ap₂}
use Rattle.clap.specs.Simple.{app_of_fields}
use Rattle.clap.specs.Words.{app_of, rule_of, with_rule}
use Rattle.sk_tools.specs.Words.{simulate_app}
use Rattle.sk_tools.proofs.words.simulate.simulate_command.Goals as goal

-- texts of help, and a name in front of the usage line, change nothing that is parsed
pub returns : goal.returns
unfolding simulate_app
returns c =
    let about : app_of c.about.result ≡ app_of c.new.result = ap app_of_fields c.about.ensures in
    let behind : app_of c.after_help.result ≡ app_of c.about.result = ap app_of_fields c.after_help.ensures in
    let named : app_of c.in_ok-command.command ≡ app_of c.after_help.result = ap app_of_fields c.in_ok-command.ensures.0 in
    let one = c.in_ok-command-2.ensures.shape (ap (λ arg. arg.global) c.help.ensures ∙ c.needed.ensures.local)
    ∙ ap₂ with_rule (named ∙ behind ∙ about ∙ c.new.ensures.app) (ap rule_of c.help.ensures ∙ c.needed.ensures.rule) in
    c.in_ok-arg.ensures.shape (ap (λ arg. arg.global) c.help-2.ensures ∙ c.flag.ensures.local)
    ∙ ap₂ with_rule one (ap rule_of c.help-2.ensures ∙ c.flag.ensures.rule)
