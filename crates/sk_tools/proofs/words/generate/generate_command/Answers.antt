use Rattle.std.proofs.Common.{◌≡◌, ◌∙◌, ap, ap₂}
use Rattle.clap.specs.Simple.{app_of_fields}
use Rattle.clap.specs.Words.{app_of, rule_of, with_rule}
use Rattle.sk_tools.specs.Words.{generate_app}
use Rattle.sk_tools.proofs.words.generate.generate_command.Goals as goal

-- texts of help, and a name in front of the usage line, change nothing that is parsed
pub returns : goal.returns
unfolding generate_app
returns c =
    let about : app_of c.about.result ≡ app_of c.new.result = ap app_of_fields c.about.ensures in
    let behind : app_of c.after_help.result ≡ app_of c.about.result = ap app_of_fields c.after_help.ensures in
    let named : app_of c.in_ok-bin_name.field-0 ≡ app_of c.after_help.result = ap app_of_fields c.in_ok-bin_name.ensures.0 in
    let one = c.in_ok-arg.ensures.shape (ap (λ arg. arg.global) c.help.ensures ∙ c.needed.ensures.local)
    ∙ ap₂ with_rule (named ∙ behind ∙ about ∙ c.new.ensures.app) (ap rule_of c.help.ensures ∙ c.needed.ensures.rule) in
    let two = c.in_ok-arg-2.ensures.shape (ap (λ arg. arg.global) c.help-2.ensures ∙ c.needed-2.ensures.local)
    ∙ ap₂ with_rule one (ap rule_of c.help-2.ensures ∙ c.needed-2.ensures.rule) in
    let three = c.in_ok-arg-3.ensures.shape (ap (λ arg. arg.global) c.help-3.ensures ∙ c.needed-3.ensures.local)
    ∙ ap₂ with_rule two (ap rule_of c.help-3.ensures ∙ c.needed-3.ensures.rule) in
    c.in_ok-command.ensures.shape (ap (λ arg. arg.global) c.help-4.ensures ∙ c.flag.ensures.local)
    ∙ ap₂ with_rule three (ap rule_of c.help-4.ensures ∙ c.flag.ensures.rule)
