use Rattle.std.proofs.Common.{refl}
use Rattle.sk_report.proofs.Walking.{walked_by, walked_got, walked_begin}
use Rattle.sk_report.proofs.walk.Walk.note.Goals as goal

pub returns-in_ok-add-in-Got : goal.returns-in_ok-add-in-Got
returns-in_ok-add-in-Got c = λ before h. walked_got before c.args.entry.now c.in-Got.peer c.in-Got.peer c.in-Got.message c.args.self.now c.add.new.self c.in-Got.is refl h c.in_ok-add-in-Got.ensures

pub returns-in-Begin : goal.returns-in-Begin
returns-in-Begin c = λ before h. walked_begin before c.args.entry.now c.in-Begin.field-0 c.in-Begin.at c.args.self.now c.in-Begin.is h

pub returns-in-Put : goal.returns-in-Put
returns-in-Put c = λ before h. walked_by before c.args.entry.now _ c.args.self.now c.in-Put.is h (λ p. refl) refl refl

pub returns-in-State : goal.returns-in-State
returns-in-State c = λ before h. walked_by before c.args.entry.now _ c.args.self.now c.in-State.is h (λ p. refl) refl refl

pub returns-in-System : goal.returns-in-System
returns-in-System c = λ before h. walked_by before c.args.entry.now _ c.args.self.now c.in-System.is h (λ p. refl) refl refl

pub returns-in-Done : goal.returns-in-Done
returns-in-Done c = λ before h. walked_by before c.args.entry.now _ c.args.self.now c.in-Done.is h (λ p. refl) refl refl

pub returns-in-End : goal.returns-in-End
returns-in-End c = λ before h. walked_by before c.args.entry.now _ c.args.self.now c.in-End.is h (λ p. refl) refl refl

pub returns-in-Ask : goal.returns-in-Ask
returns-in-Ask c = λ before h. walked_by before c.args.entry.now _ c.args.self.now c.in-Ask.is h (λ p. refl) refl refl

pub returns-in-Gone : goal.returns-in-Gone
returns-in-Gone c = λ before h. walked_by before c.args.entry.now _ c.args.self.now c.in-Gone.is h (λ p. refl) refl refl

pub returns-in-Stray : goal.returns-in-Stray
returns-in-Stray c = λ before h. walked_by before c.args.entry.now _ c.args.self.now c.in-Stray.is h (λ p. refl) refl refl

pub returns-in-Did : goal.returns-in-Did
returns-in-Did c = λ before h. walked_by before c.args.entry.now _ c.args.self.now c.in-Did.is h (λ p. refl) refl refl

pub returns-in-Fault : goal.returns-in-Fault
returns-in-Fault c = λ before h. walked_by before c.args.entry.now _ c.args.self.now c.in-Fault.is h (λ p. refl) refl refl
