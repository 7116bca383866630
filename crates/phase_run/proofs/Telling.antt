-- What was told goes on being told.
use Rattle.std.specs.Prelude.{ℕ, List, [], ◌++◌, ◌≡◌, ◌≤◌, OnOk, OnErr, take, drop}
use Rattle.std.proofs.Common.{refl, sym, ap, subst, ◌∙◌, arith, append_assoc, append-nil}
use Rattle.std.proofs.lemmas.List.{take-append-drop}
use Rattle.std.specs.declared.option.Option.{Option}
use Rattle.std.specs.declared.option.Option.TheVariants.{None, Some}
use Rattle.std.specs.declared.result.Result.{Result}
use Rattle.std.specs.declared.result.Result.TheVariants.{Ok, Err}
use Rattle.std.specs.Io.KnownBytes.{Appends}
use Rattle.phase_run.specs.declared.failed.Failed.{Failed}
use Rattle.phase_run.specs.Faults.{Rose}
use Rattle.phase_run.specs.Telling.{HasTold, Teller, Tells, teller}

-- bytes were appended after others
pub Appends-after : (a b c : Option (List ℕ)) (xs ys : List ℕ) → Appends a b xs → Appends b c ys → Appends a c (xs ++ ys)
Appends-after None b c xs ys first more = tt
Appends-after (Some us) None c xs ys first more = absurd first
Appends-after (Some us) (Some vs) None xs ys first more = absurd more
Appends-after (Some us) (Some vs) (Some ws) xs ys first more = more ∙ ap (λ v. v ++ ys) first ∙ append_assoc us xs ys

-- one after the other
pub tells-two : (a b : List ℕ) (s t u : Teller) → Tells a s t → Tells b t u → Tells (a ++ b) s u
tells-two a b s t u f g given faults text h =
    subst (λ bytes. HasTold given faults bytes u) (append_assoc text a b) (g given faults (text ++ a) (f given faults text h))

-- bytes were put on the page
pub tells-put : (given : Option (List ℕ)) (faults : ℕ) (page new bytes : List ℕ) (told : Result (Unit {0}) Failed) → new ≡ page ++ bytes → Tells bytes (teller given faults page told) (teller given faults new told)
tells-put given faults page new bytes told put start none text h =
    record {
      written = h.written;
      rest = h.rest ++ bytes;
      appended = h.appended;
      parts = sym (append_assoc h.written h.rest bytes) ∙ ap (λ v. v ++ bytes) h.parts;
      on_page = by told h.on_page;
      failed = h.failed;
      steady = h.steady;
    }
  where
    by : (r : Result (Unit {0}) Failed) → OnOk r (h.rest ≡ page) → OnOk r (h.rest ++ bytes ≡ new)
    by (Ok x) e = ap (λ v. v ++ bytes) e ∙ sym put
    by (Err x) e = tt

-- a line was put on a page that had room, or was turned
pub tells-line : (given now : Option (List ℕ)) (faults more : ℕ) (page room new bytes : List ℕ) (told after : Result (Unit {0}) Failed) → Tells [] (teller given faults page told) (teller now more room after) → new ≡ room ++ bytes
    → Tells bytes (teller given faults page told) (teller now more new after)
tells-line given now faults more page room new bytes told after turned put =
    tells-two [] bytes (teller given faults page told) (teller now more room after) (teller now more new after) turned (tells-put now more room new bytes after put)

-- the page was written, whole, or its front where the sink failed
tells-written : (given now : Option (List ℕ)) (faults more : ℕ) (page : List ℕ) (r : Result (Unit {0}) Failed) → OnOk r (Appends given now page) → OnErr r ((k : ℕ) × Appends given now (take k page)) → OnErr r (Rose faults more) → faults ≤ more
    → Tells [] (teller given faults page (Ok tt)) (teller now more [] r)
tells-written given now faults more page (Ok x) whole part failed steady start none text h =
    record {
      written = h.written ++ page;
      rest = [];
      appended = Appends-after start given now h.written page h.appended whole;
      parts = append-nil (h.written ++ page) ∙ ap (λ v. h.written ++ v) (sym h.on_page) ∙ h.parts ∙ sym (append-nil text);
      on_page = refl;
      failed = tt;
      steady = omega (arith, h.steady, steady);
    }
tells-written given now faults more page (Err x) whole part failed steady start none text h =
    record {
      written = h.written ++ take part.0 page;
      rest = drop part.0 page;
      appended = Appends-after start given now h.written (take part.0 page) h.appended part.1;
      parts = append_assoc h.written (take part.0 page) (drop part.0 page)
          ∙ ap (λ v. h.written ++ v) (take-append-drop part.0 page ∙ sym h.on_page) ∙ h.parts ∙ sym (append-nil text);
      on_page = tt;
      failed = omega (arith, h.steady, failed);
      steady = omega (arith, h.steady, steady);
    }

-- it was written where the sink had not failed, and is clear then
pub tells-handed : (given now : Option (List ℕ)) (faults more : ℕ) (page bytes clear : List ℕ) (told r : Result (Unit {0}) Failed) (x : Unit {0}) → told ≡ Ok x → bytes ≡ page → clear ≡ [] → OnOk r (Appends given now bytes) → OnErr r ((k : ℕ) × Appends given now (take k bytes)) → OnErr r (Rose faults more) → faults ≤ more
    → Tells [] (teller given faults page told) (teller now more clear r)
tells-handed given now faults more page bytes clear told r x ok same none whole part failed steady =
    rw (ok, none) (tells-written given now faults more page r (subst (λ v. OnOk r (Appends given now v)) same whole) (subst (λ v. OnErr r ((k : ℕ) × Appends given now (take k v))) same part) failed steady)

-- where the sink failed before, nothing is written, and the page is cleared
pub tells-cleared : (given : Option (List ℕ)) (faults : ℕ) (page clear : List ℕ) (told : Result (Unit {0}) Failed) (x : Failed) → told ≡ Err x → Tells [] (teller given faults page told) (teller given faults clear (Err x))
tells-cleared given faults page clear told x failed start none text h =
    record {
      written = h.written;
      rest = h.rest;
      appended = h.appended;
      parts = h.parts ∙ sym (append-nil text);
      on_page = tt;
      failed = subst (λ r. OnErr r (Rose none faults)) failed h.failed;
      steady = h.steady;
    }
