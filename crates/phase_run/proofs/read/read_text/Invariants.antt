use Rattle.std.proofs.Common.{◌≡◌, ◌≤◌, ◌-◌, vec_len}
use Rattle.std.specs.Io.KnownBytes.{Consumes}
use Rattle.phase_run.proofs.read.read_text.Given as goal

abbrev pub invariant-loop-text : goal.invariant-loop-text
invariant-loop-text g l = record {
  block : vec_len l.block ≡ 65536;
  fits : vec_len l.text ≤ 16777217;
  taken : Consumes (g.S.Source.remaining l.fn.src) (g.S.Source.remaining l.src) l.text.items;
  steady : g.S.Source.faults l.fn.src ≤ g.S.Source.faults l.src;
}

abbrev pub decreases-loop-text : goal.decreases-loop-text
decreases-loop-text g l = 16777217 - vec_len l.text
