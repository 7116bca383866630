-- The value of a locked cell that is lent to its owner.
use Rattle.std.proofs.Common.{◌≡◌, Option, Some, Result, Ok, refl, sym, ap, ◌∙◌, subst, false}
use Rattle.phase_bits.specs.declared.phase.Phase.{Phase}
use Rattle.phase_seq.specs.declared.generator.InitFault.{InitFault}
use Rattle.phase_seq.specs.declared.init_error.InitError.{InitError}
use Rattle.phase_seq.specs.declared.tolerance.Tolerance.{Tolerance}
use Rattle.lazy_cells.specs.Locked.{Locked, bars_write, Calls}
use Rattle.lazy_cells.specs.Access.{say_init, left_init, lent, EndsWith}

module _ {T G P : Type 0} (att : G → Result T InitFault → G → Type 0) (t : Tolerance) (s : Option Phase) (old mid cell : Locked T G P) (told : Result Phase InitError) (p : Phase) (v w : T) where
  -- a cell of which this value was shown, and that one written
  pub ends_with : told ≡ Ok p → cell ≡ mid → cell.value ≡ Some v → Calls att t s bars_write (say_init false) left_init old told mid → EndsWith att t s old (Ok v) w (record cell { value = Some w })
  ends_with et em ev c = record {
    shows = record {
      told = told;
      calls = subst (λ (z : Locked T G P). Calls att t s bars_write (say_init false) left_init old told z) same c;
      shown = sym (ap (λ (z : Result Phase InitError). lent z (Some v)) et);
    };
    written = refl;
  }
    where
      same : mid ≡ record cell { value = Some v }
      same = sym em ∙ ap (λ (o : Option T). record cell { value = o }) ev
