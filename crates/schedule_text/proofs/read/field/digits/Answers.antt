use Rattle.std.proofs.Common.{sym, ap, ◌∙◌}
use Rattle.schedule_text.specs.ReadFields.{digits_from}
use Rattle.schedule_text.proofs.ReadNumbers.{digits_on, digits_end, digits_over, digits_all}
use Rattle.schedule_text.proofs.read.field.digits.Goals as goal
use Rattle.schedule_text.proofs.read.field.digits.Goals.{in-Some+then-not-is_ascii_digit, in_default}

pub returns-in_err-number : goal.returns-in_err-number
returns-in_err-number c =
    rw c.from_residual.ensures
    (sym c.loop-digit.invariant ∙ ap (digits_from c.loop-digit.number) c.in-Some.ensures
    ∙ digits_over c.loop-digit.number c.in-Some.digit c.in-Some.after.now (sym c.if-not-is_ascii_digit.ensures.value) c.in_err-number.ensures)

pub loop-digit-preserved : goal.loop-digit-preserved
loop-digit-preserved c =
    let e = c.in_ok-number.ensures in
    rw e.1
    (sym (digits_on c.loop-digit.number c.in-Some.digit c.in-Some.after.now (sym c.if-not-is_ascii_digit.ensures.value) e.0)
    ∙ sym (ap (digits_from c.loop-digit.number) c.in-Some.ensures) ∙ c.loop-digit.invariant)

pub returns : goal.returns
returns c =
    elim c.match-first_byte.branch [
      | in-Some+then-not-is_ascii_digit w ↦
          let e = w.in-Some.ensures in
          sym c.loop-digit.invariant ∙ rw e (digits_end c.loop-digit.number w.in-Some.digit w.in-Some.after.now (sym w.if-not-is_ascii_digit.ensures.value))
      | in_default w ↦ let e = w.in_default.ensures in sym c.loop-digit.invariant ∙ rw e (digits_all c.loop-digit.number)
    ]
