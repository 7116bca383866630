-- A list of cells, of which those before some place were started.
use Rattle.std.proofs.Common.{◌≡◌, ◌≢◌, ℕ, zero, suc, ◌<◌, List, [], ◌∷◌, length, Some, Result, Ok, Err, refl, sym, ◌∙◌, subst, arith, inl, inr}
use Rattle.std.specs.Prelude.{slice_get}
use Rattle.std.proofs.Math.ListN.{set, get_or, length-set}
use Rattle.std.proofs.lemmas.Bool.{cases_eq}
use Rattle.std.proofs.lemmas.Option.{slice_get-get_or}
use Rattle.phase_bits.specs.declared.phase.Phase.{Phase}
use Rattle.exit_registry.specs.Registry.{Registry}
use Rattle.exit_registry.proofs.Exiting.{set_others}
use Rattle.phase_seq.specs.declared.init_error.InitError.{InitError}
use Rattle.lazy_cells.specs.Startup.{Standing, MayStart, Answers, Starts}
use Rattle.lazy_cells.specs.StartAll.{At, Each, AreDistinct, HasStarted, fine, failed, NoneBears, KnowsAll, AreStarted, StopsAt, StartsAt}

set_here : {X : Type 0} (c : ℕ) (xs : List X) (y : X) → c < length xs → slice_get (set xs c y) c ≡ Some y
set_here c [] y l = absurd (omega arith)
set_here zero (x ∷ xs) y l = refl
set_here (suc c) (x ∷ xs) y l = set_here c xs y (omega arith)

module _ {X : Type 0} (st : X → Standing) (run : X → Type 0) where
  -- a cell that had its start in its place
  pub started_at : (n : ℕ) (xs : List X) (d y : X) (r : Result Phase InitError) (m m' : Registry) → n < length xs → Starts (st (get_or xs n d)) r (st y) m m' → run y → StartsAt st run n xs r (set xs n y) m m'
  started_at n xs d y r m m' l s a = record {
    before = get_or xs n d;
    after = y;
    was = slice_get-get_or xs n d l;
    is = set_here n xs y l;
    starts = s;
    again = a;
    size = length-set xs n y;
    others = λ k e. set_others n xs y k e;
  }

  module _ (old : List X) (m : Registry) where
    -- none was started
    pub none_started : AreStarted st run 0 old old m m
    none_started = record {
      size = refl;
      started = λ k l. absurd (omega arith);
      rest = λ k l. refl;
      registry = record { cells = refl; kept = λ c e. e; others = λ c e. refl };
    }

    module _ (n : ℕ) (mid : List X) (m1 : Registry) (a : AreStarted st run n old mid m m1) where
      -- the cell at this place is as it was
      pub at_place : (P : X → Type 0) → Each P old → At P n mid
      at_place P e x is = e n x (sym (a.rest n (omega arith)) ∙ is)

      apart_below : (k : ℕ) → k < n → k ≢ n
      apart_below k l e = absurd (omega (arith, e))

      -- it may be started
      pub may_next : Each (λ x. MayStart (st x) m) old → AreDistinct st run old → At (λ x. MayStart (st x) m1) n mid
      may_next may apart x is = record {
        may = λ c e.
            let was : slice_get old n ≡ Some x = sym (a.rest n (omega arith)) ∙ is in
            let one = (may n x was).may c e in
            let none : NoneBears st run n old c = (λ k l y w. apart k n (apart_below k l) y x w was c e) in
            record {
              inside = subst (λ (z : ℕ). c < z) (sym a.registry.cells) one.inside;
              unknown = λ p w. a.registry.others c none ∙ one.unknown p w;
            };
      }

      module _ (r : Result Phase InitError) (new : List X) (m2 : Registry) (s : StartsAt st run n mid r new m1 m2) where
        was : slice_get old n ≡ Some s.before
        was = sym (a.rest n (omega arith)) ∙ s.was

        earlier : (k : ℕ) → k < n → HasStarted st run (fine st run) k old new
        earlier k l = let h = a.started k l in record {
          before = h.before;
          after = h.after;
          was = h.was;
          is = s.others k (apart_below k l) ∙ h.is;
          answers = h.answers;
          held = h.held;
          writing = h.writing;
          cell = h.cell;
          again = h.again;
        }

        here : (say : Standing → Result Phase InitError) → Answers (st s.before) (say (st s.after)) (st s.after) → HasStarted st run say n old new
        here say e = record {
          before = s.before;
          after = s.after;
          was = was;
          is = s.is;
          answers = e;
          held = s.starts.held;
          writing = s.starts.writing;
          cell = s.starts.cell;
          again = s.again;
        }

        later : (k : ℕ) → n < k → slice_get new k ≡ slice_get old k
        later k l = s.others k (λ e. absurd (omega (arith, e))) ∙ a.rest k (omega arith)

        sizes : length new ≡ length old
        sizes = s.size ∙ a.size

        knows : KnowsAll st run (suc n) old m m2
        knows = record {
          cells = s.starts.registry.cells ∙ a.registry.cells;
          kept = λ c e. s.starts.registry.kept c (a.registry.kept c e);
          others = λ c none. s.starts.registry.others c (none n (omega arith) s.before was) ∙ a.registry.others c (λ k l. none k (omega arith));
        }

      -- one more cell was started
      pub next_started : (p : Phase) (new : List X) (m2 : Registry) → StartsAt st run n mid (Ok p) new m1 m2 → AreStarted st run (suc n) old new m m2
      next_started p new m2 s = record {
        size = sizes (Ok p) new m2 s;
        started = λ k l. elim (cases_eq k n) [
          | inl e ↦ subst (λ (z : ℕ). HasStarted st run (fine st run) z old new) (sym e) (here (Ok p) new m2 s (fine st run) (refl, s.starts.answers.1, s.starts.answers.2))
          | inr e ↦ earlier (Ok p) new m2 s k (omega (arith, e))
        ];
        rest = λ k l. later (Ok p) new m2 s k (omega arith);
        registry = knows (Ok p) new m2 s;
      }

      -- the start of the next cell failed
      pub stops : (e : InitError) (new : List X) (m2 : Registry) → n < length old → StartsAt st run n mid (Err e) new m1 m2 → StopsAt st run n e old new m m2
      stops e new m2 l s = record {
        inside = l;
        size = sizes (Err e) new m2 s;
        started = earlier (Err e) new m2 s;
        stopped = here (Err e) new m2 s (failed st run e) s.starts.answers;
        rest = later (Err e) new m2 s;
        registry = knows (Err e) new m2 s;
      }

  -- the same, of a place that is written otherwise
  pub to_place : (old new : List X) (m m' : Registry) (n q : ℕ) → n ≡ q → AreStarted st run n old new m m' → AreStarted st run q old new m m'
  to_place old new m m' n q e a = subst (λ (z : ℕ). AreStarted st run z old new m m') e a
