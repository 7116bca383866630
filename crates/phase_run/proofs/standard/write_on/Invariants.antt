use Rattle.std.specs.Io.KnownBytes.{Keeps}
use Rattle.phase_run.proofs.standard.write_on.Given as goal

-- nothing was moved yet
abbrev pub invariant-loop : goal.invariant-loop
invariant-loop g l = Keeps (g.W.Write.contents l.fn.inner) (g.W.Write.contents l.inner)
