-- A schedule without a cause can be run.
use Rattle.phase_schedule.proofs.Words.{[], ◌+◌, ◌<◌, ◌^◌, ◌∙◌, ◌∷◌, ◌≡◌, All, ap, AreShared, arith, Bool, cause_of, cause_of_plan, cell_at, CellPlan, crowd_of, false, first_cause}
use Rattle.phase_schedule.proofs.Words.{first_found, get_or_past, if◌then◌else◌, is_owned, is_placed, IsTrue, IsValid, Kind, length, List, misplaced_of, most_parties}
use Rattle.phase_schedule.proofs.Words.{names_known_cell, NamesKnown, nat_lt, no_cell, None, Option, Place, refl, RunError, Schedule, Some, Step, true, unknown_of, ℕ}
use Rattle.std.proofs.lemmas.List.Elements.{All-nil, All-cons, All-head, All-tail}
use Rattle.lazy_cells.specs.Kinds.{is_finalizable}
use Rattle.phase_schedule.specs.declared.error.RunError.TheVariants as error

neither : (a b : Option RunError) → first_cause a b ≡ None → (a ≡ None) × (b ≡ None)
neither None b e = (refl, e)
neither (Some x) b e = absurd (cc)

known_step : (parties cells n : ℕ) (s : Step) → unknown_of parties cells n s ≡ None → NamesKnown parties cells s
known_step parties cells n s e = by (nat_lt s.party parties) (names_known_cell cells s.act) refl refl e
  where
    by : (b d : Bool) → nat_lt s.party parties ≡ b → names_known_cell cells s.act ≡ d → (if b then (if d then None else Some (error.UnknownCell n)) else Some (error.UnknownParty n)) ≡ None → NamesKnown parties cells s
    by true true p a q = record { party = grind arith; cell = grind arith }
    by b d p a q = absurd (cc)

none_found : {X : Type 0} (look : ℕ → X → Option RunError) (P : X → Type 0) → ((n : ℕ) (x : X) → look n x ≡ None → P x) → (n : ℕ) (xs : List X) → first_found look n xs ≡ None → All P xs
none_found look P each n [] e = All-nil P
none_found look P each n (x ∷ xs) e =
    let f : (look n x ≡ None) × (first_found look (n + 1) xs ≡ None) = neither _ _ e in
    All-cons P x xs (each n x f.0) (none_found look P each (n + 1) xs f.1)

placed : (parties c : ℕ) (x : CellPlan) → misplaced_of parties c x ≡ None → IsTrue (is_placed parties x.kind x.place)
placed parties c x e = grind (arith, e)

shared_cell : (parties : ℕ) (q : Kind) (p : Place) → IsTrue (is_placed parties q p) → is_finalizable q ≡ true → is_owned p ≡ false
shared_cell parties q p t e = grind (arith, t, e)

-- no cell of a plan without a cause is finalized and belongs to a party, and none that no plan has
pub shared : (parties : ℕ) (cells : List CellPlan) → cause_of_plan parties cells ≡ None → AreShared cells
shared parties cells none c = by (nat_lt c (length cells)) refl
  where
    all : All (λ x. IsTrue (is_placed parties x.kind x.place)) cells
    all = let f : (crowd_of parties ≡ None) × (first_found (misplaced_of parties) 0 cells ≡ None) = neither _ _ none in none_found _ (λ x. IsTrue (is_placed parties x.kind x.place)) (placed parties) 0 cells f.1

    by : (b : Bool) → nat_lt c (length cells) ≡ b → is_finalizable (cell_at cells c).kind ≡ true → is_owned (cell_at cells c).place ≡ false
    by true lt = shared_cell parties (cell_at cells c).kind (cell_at cells c).place (all c no_cell (grind arith))
    by false past = λ e. ap (λ x. is_owned x.place) (get_or_past cells c no_cell (grind arith))

-- the same of a schedule
pub shared_cells : (x : Schedule) → cause_of x ≡ None → AreShared x.cells
shared_cells x e = let f : (cause_of_plan x.parties x.cells ≡ None) × (first_found (unknown_of x.parties (length x.cells)) 0 x.steps ≡ None) = neither _ _ e in shared x.parties x.cells f.0

few : (parties : ℕ) → crowd_of parties ≡ None → parties < most_parties
few parties e = grind arith

-- within the limits of lengths
pub valid : (x : Schedule) → length x.cells < 2 ^ 32 → length x.steps < 2 ^ 32 → cause_of x ≡ None → IsValid x
valid x cells steps e =
    let f : (cause_of_plan x.parties x.cells ≡ None) × (first_found (unknown_of x.parties (length x.cells)) 0 x.steps ≡ None) = neither _ _ e in
    let g : (crowd_of x.parties ≡ None) × (first_found (misplaced_of x.parties) 0 x.cells ≡ None) = neither _ _ f.0 in
    record {
      parties = few x.parties g.0;
      known = none_found _ (NamesKnown x.parties (length x.cells)) (known_step x.parties (length x.cells)) 0 x.steps f.1;
      placed = none_found _ (λ c. IsTrue (is_placed x.parties c.kind c.place)) (placed x.parties) 0 x.cells g.1;
      cells_count = cells;
      steps_count = steps;
    }

-- ---- and only such a schedule

no_unknown_step : (parties cells n : ℕ) (s : Step) → NamesKnown parties cells s → unknown_of parties cells n s ≡ None
no_unknown_step parties cells n s k = rw (party, cell) refl
  where
    party : nat_lt s.party parties ≡ true
    party = let lt : _ = k.party in grind arith

    cell : names_known_cell cells s.act ≡ true
    cell = let known : _ = k.cell in grind arith

not_found : {X : Type 0} (look : ℕ → X → Option RunError) (P : X → Type 0) → ((n : ℕ) (x : X) → P x → look n x ≡ None) → (n : ℕ) (xs : List X) → All P xs → first_found look n xs ≡ None
not_found look P each n [] k = refl
not_found look P each n (x ∷ xs) k = rw (each n x (All-head P x xs k)) (not_found look P each (n + 1) xs (All-tail P x xs k))

not_misplaced : (parties c : ℕ) (x : CellPlan) → IsTrue (is_placed parties x.kind x.place) → misplaced_of parties c x ≡ None
not_misplaced parties c x t = grind (arith, t)

not_many : (parties : ℕ) → parties < most_parties → crowd_of parties ≡ None
not_many parties lt = grind arith

no_cause : (x : Schedule) → IsValid x → cause_of x ≡ None
no_cause x v =
    let plan : cause_of_plan x.parties x.cells ≡ None =
    rw (not_many x.parties v.parties) (not_found (misplaced_of x.parties) _ (not_misplaced x.parties) 0 x.cells v.placed) in
    rw plan (not_found (unknown_of x.parties (length x.cells)) _ (no_unknown_step x.parties (length x.cells)) 0 x.steps v.known)

pub no_error : (x : Schedule) (e : RunError) → Some e ≡ cause_of x → IsValid x → ⊥
no_error x e is v = let never : Some e ≡ None = is ∙ no_cause x v in cc
