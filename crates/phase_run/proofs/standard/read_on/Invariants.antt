use Rattle.std.specs.Io.KnownBytes.{Keeps}
use Rattle.phase_run.proofs.standard.read_on.Given as goal

-- nothing was moved yet
abbrev pub invariant-loop : goal.invariant-loop
invariant-loop g l = Keeps (g.R.Read.remaining l.fn.inner) (g.R.Read.remaining l.inner)
