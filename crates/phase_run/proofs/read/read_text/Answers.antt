use Rattle.std.proofs.Common.{arith, length-append, length-take, ◌≡◌, ◌++◌, ◌∙◌, ap, not, true, is_ok, length, take}
use Rattle.phase_run.proofs.KnownBytes.{Consumes-none, Consumes-more, Consumes-keeps, Consumes-takes, Consumes-whole, Consumes-over}
use Rattle.phase_run.proofs.read.read_text.Goals as goal

pub loop-text-init : goal.loop-text-init
loop-text-init g c = record { block = c.in-Ok.ensures.len; fits = omega arith; taken = rw c.new-text.ensures.items (Consumes-none _); steady = omega arith }

pub returns-in_default-take-clause-taken : goal.returns-in_default-take-clause-taken
returns-in_default-take-clause-taken g c =
    Consumes-takes _ _ _ c.loop-text.text.items
    (Consumes-keeps _ (g.S.Source.remaining c.loop-text.src) _ _ c.loop-text.invariant.taken c.in_default-take.ensures.bytes)
    (omega (arith, c.loop-text.text.ok.0))

pub returns-then-n-eq0-clause-whole : goal.returns-then-n-eq0-clause-whole
returns-then-n-eq0-clause-whole g c =
    Consumes-whole _ (g.S.Source.remaining c.loop-text.src) _ _ c.take.new.buf c.in-Ok-take.n c.loop-text.invariant.taken
    c.in-Ok-take.ensures.bytes.0 c.if-n-eq0.true (c.in-Ok-take.ensures.bytes.1 c.if-n-eq0.true
    (let size : length c.take.new.buf ≡ c.min-room.result = omega (arith, length-take c.min-room.result c.deref_mut.result.now) in omega arith))

pub returns-then-n-eq0-clause-taken : goal.returns-then-n-eq0-clause-taken
returns-then-n-eq0-clause-taken g c =
    Consumes-takes _ _ _ (c.loop-text.text.items ++ take c.in-Ok-take.n c.take.new.buf)
    (Consumes-more _ (g.S.Source.remaining c.loop-text.src) _ _ _ c.loop-text.invariant.taken c.in-Ok-take.ensures.bytes.0)
    (omega (arith, length-append c.loop-text.text.items (take c.in-Ok-take.n c.take.new.buf), c.in-Ok-take.ensures.bound.1, c.loop-text.text.ok.0))

pub returns-then-is_err-clause-taken : goal.returns-then-is_err-clause-taken
returns-then-is_err-clause-taken g c =
    Consumes-takes _ _ _ (c.loop-text.text.items ++ take c.in-Ok-take.n c.take.new.buf)
    (Consumes-more _ (g.S.Source.remaining c.loop-text.src) _ _ _ c.loop-text.invariant.taken c.in-Ok-take.ensures.bytes.0)
    (let size : length c.take.new.buf ≡ c.min-room.result = omega (arith, length-take c.min-room.result c.deref_mut.result.now) in
    omega (arith, length-append c.loop-text.text.items (take c.in-Ok-take.n c.take.new.buf), c.in-Ok-take.ensures.bound.0, c.in-Ok-take.ensures.bound.1, c.loop-text.text.ok.0))

pub loop-text-preserved : goal.loop-text-preserved
loop-text-preserved g c =
    let size : length c.take.new.buf ≡ c.min-room.result = omega (arith, length-take c.min-room.result c.deref_mut.result.now) in
    let done : is_ok c.extend_from_slice.result ≡ true = c.is_err.ensures.negation ∙ ap not c.if-is_err.false in
    let items = rw done at c.extend_from_slice.ensures.items in
    let len = rw done at c.extend_from_slice.ensures.len in
    record {
      block = c.loop-text.invariant.block;
      fits = omega (arith, len, c.in-Ok-take.ensures.bound.0, c.in-Ok-take.ensures.bound.1);
      taken = rw items (Consumes-more _ (g.S.Source.remaining c.loop-text.src) _ _ _ c.loop-text.invariant.taken c.in-Ok-take.ensures.bytes.0);
      steady = omega arith;
    }

pub returns-clause-stops : goal.returns-clause-stops
returns-clause-stops g c =
    Consumes-over _ _ _ c.loop-text.text.items c.loop-text.invariant.taken (omega (arith, c.loop-text.text.ok.0))

pub returns-clause-taken : goal.returns-clause-taken
returns-clause-taken g c = Consumes-takes _ _ _ c.loop-text.text.items c.loop-text.invariant.taken (omega (arith, c.loop-text.text.ok.0))
