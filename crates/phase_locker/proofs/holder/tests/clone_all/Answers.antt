use Rattle.std.proofs.Common.{◌∙◌, sym, subst}
use Rattle.phase_locker.specs.declared.ways.LockerKind.{LockerKind}
use Rattle.phase_locker.specs.Fits.{Fits}
use Rattle.phase_locker.proofs.holder.tests.clone_all.Goals as goal

pub loop-n-preserved : goal.loop-n-preserved
loop-n-preserved g c =
    let kind = c.loop-n.invariant.kind in
    record {
      fits = λ s d f.
          subst (λ (k : LockerKind). Fits k c.clone_read.new.self.holders s d) kind
          (c.clone_read.ensures.fits s d (subst (λ (k : LockerKind). Fits k c.loop-n.locker.holders s d) (sym kind) (c.loop-n.invariant.fits s d f)));
      kind = c.clone_read.ensures.place ∙ kind;
    }
