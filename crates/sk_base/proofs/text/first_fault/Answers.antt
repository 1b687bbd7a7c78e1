use Rattle.std.proofs.Common.{◌≡◌, arith, sym, Some, None}
use Rattle.std.specs.Prelude.{position}
use Rattle.sk_base.specs.Ranges.{is_control}
use Rattle.sk_base.proofs.TextLaws.{is_text_from, text_fault-none, text_fault-control, text_fault-long, no_text}
use Rattle.sk_base.proofs.text.first_fault.Goals as goal

pub returns-then-text-gt-LONGEST_TEXT-clause-value : goal.returns-then-text-gt-LONGEST_TEXT-clause-value
returns-then-text-gt-LONGEST_TEXT-clause-value c = sym (text_fault-long c.args.text.now (omega arith))

pub returns-then-text-gt-LONGEST_TEXT-clause-wrong : goal.returns-then-text-gt-LONGEST_TEXT-clause-wrong
returns-then-text-gt-LONGEST_TEXT-clause-wrong c = (no_text c.args.text.now _ (text_fault-long c.args.text.now (omega arith)), λ e. cc)

pub returns-in-Some-clause-value : goal.returns-in-Some-clause-value
returns-in-Some-clause-value c =
    let found : position is_control c.args.text.now ≡ Some c.in-Some.at = rw (← c.as_bytes.ensures.value) (sym c.in-Some.ensures) in
    sym (text_fault-control c.args.text.now c.in-Some.at (omega arith) found)

pub returns-in-Some-clause-wrong : goal.returns-in-Some-clause-wrong
returns-in-Some-clause-wrong c =
    let found : position is_control c.args.text.now ≡ Some c.in-Some.at = rw (← c.as_bytes.ensures.value) (sym c.in-Some.ensures) in
    (no_text c.args.text.now _ (text_fault-control c.args.text.now c.in-Some.at (omega arith) found), λ e. cc)

pub returns-in-None-clause-value : goal.returns-in-None-clause-value
returns-in-None-clause-value c =
    let none : position is_control c.args.text.now ≡ None = rw (← c.as_bytes.ensures.value) (sym c.in-None.ensures) in
    sym (text_fault-none c.args.text.now (omega arith) none)

pub returns-in-None-clause-fine : goal.returns-in-None-clause-fine
returns-in-None-clause-fine c =
    let none : position is_control c.args.text.now ≡ None = rw (← c.as_bytes.ensures.value) (sym c.in-None.ensures) in
    is_text_from c.args.text.now c.utf8.text (omega arith) none
