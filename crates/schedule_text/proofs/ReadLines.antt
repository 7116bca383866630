-- Steps and cells: what is read is spelled so, and what is spelled so is read as that one.
use Rattle.std.proofs.Common.{◌≡◌, ℕ, ◌<◌, Bool, true, false, not, ◌^◌, ◌==◌, if◌then◌else◌, List, [], ◌∷◌, ◌++◌, length, Option, Some, None, refl, sym, ap, ◌∙◌, append_assoc, arith}
use Rattle.std.specs.Prelude.{codes}
use Rattle.std.specs.Fmt.{decimal}
use Rattle.std.specs.List.{flat_map, AllByRecursion}
use Rattle.std.proofs.lemmas.List.{length-append, flat_map_more}
use Rattle.std.proofs.lemmas.Bool.{eqb-true}
use Rattle.std.proofs.lemmas.Option.{some_pair_parts}
use Rattle.lazy_cells.specs.declared.kind.Kind.{Kind}
use Rattle.lazy_cells.specs.declared.kind.Kind.TheVariants as kind
use Rattle.schedule_rules.specs.declared.plan.Place.{Place}
use Rattle.schedule_rules.specs.declared.plan.Place.TheVariants as place
use Rattle.schedule_rules.specs.declared.plan.CellPlan.{CellPlan}
use Rattle.schedule_rules.specs.declared.step.Act.{Act}
use Rattle.schedule_rules.specs.declared.step.Act.TheVariants as act
use Rattle.schedule_rules.specs.declared.step.Step.{Step}
use Rattle.schedule_text.specs.Lines.{Word, line_rest}
use Rattle.schedule_text.specs.ScheduleText.{kind_name, place_words, once_words, leak_words, prime_words, option_words, act_words, PlaceFits, CellFits, StepFits}
use Rattle.schedule_text.specs.ReadFields.{Field, ◌>>=◌, bytes_after, number_at, name_at}
use Rattle.schedule_text.specs.ReadSteps.{act_text, act_at, step_text, step_at, cell_text, kind_table, kind_at, place_table, own_at, place_else, place_at, option_else, option_at, prime_value_at, prime_else, prime_at, options_at, word_else, first_word, cell_at}
use Rattle.schedule_text.proofs.ReadWords.{bind_some, carry, unchosen, word_takes, word_again, IsTable, row_takes}
use Rattle.schedule_text.proofs.ReadNumbers.{number_takes, number_again, name_takes, name_again}
use Rattle.schedule_text.proofs.ReadActs.{act_takes, act_again}

-- ---- steps

rest_is : (a : Act) → line_rest (act_words a) ≡ 32 ∷ act_text a
unfolding act_text
rest_is (act.Call c k) = refl
rest_is act.Again = refl
rest_is (act.Made v) = refl
rest_is act.MadeFailed = refl
rest_is (act.Look g) = refl
rest_is (act.Set g v) = refl
rest_is (act.Release g) = refl
rest_is (act.Downgrade g) = refl
rest_is (act.Clone g) = refl
rest_is (act.Finished left) = refl
rest_is (act.FinishFailed left) = refl
rest_is (act.GetMut c made left) = refl
rest_is (act.TryGetMut c left) = refl
rest_is act.Exit = refl

step_is : (s : Step) → step_text s ≡ decimal s.party ++ (32 ∷ act_text s.act)
unfolding step_text
step_is s = ap (λ (x : List ℕ). decimal s.party ++ x) (rest_is s.act)

-- what was read from the front
pub record TakesStep (bytes : List ℕ) (s : Step) (rest : List ℕ) : Type 0 where
  pub spelling : bytes ≡ step_text s ++ rest
  pub fits : StepFits s

step_is_read : (bytes start after rest : List ℕ) (s : Step) → bytes ≡ decimal s.party ++ after → after ≡ codes " " ++ start → start ≡ act_text s.act ++ rest → bytes ≡ step_text s ++ rest
step_is_read bytes start after rest s e f h =
    let tail : after ≡ 32 ∷ (act_text s.act ++ rest) = f ∙ ap (λ (x : List ℕ). 32 ∷ x) h in
    e ∙ ap (λ (x : List ℕ). decimal s.party ++ x) tail ∙ sym (append_assoc (decimal s.party) (32 ∷ act_text s.act) rest) ∙ ap (λ (x : List ℕ). x ++ rest) (sym (step_is s))

abbrev found : ℕ → Act × List ℕ → Option (Step × List ℕ)
found p a = Some (record { party = p; act = a.0 }, a.1)

pub step_takes : (bytes : List ℕ) (s : Step) (rest : List ℕ) → step_at bytes ≡ Some (s, rest) → TakesStep bytes s rest
unfolding step_at
step_takes bytes s rest e =
    let p = bind_some (name_at bytes) (λ p. bytes_after (codes " ") p.1 >>= λ start. act_at start >>= found p.0) (s, rest) e in
    let m = bind_some (bytes_after (codes " ") p.0.1) (λ start. act_at start >>= found p.0.0) (s, rest) p.2 in
    let a = bind_some (act_at m.0) (found p.0.0) (s, rest) m.2 in
    let made : Step = record { party = p.0.0; act = a.0.0 } in
    let party = name_takes bytes p.0.0 p.0.1 p.1 in
    let space = word_takes (codes " ") p.0.1 m.0 m.1 in
    let act = act_takes m.0 a.0.0 a.0.1 a.1 in
    carry (TakesStep bytes) made s a.0.1 rest a.2
    (record { spelling = step_is_read bytes m.0 p.0.1 a.0.1 made party.0 space act.spelling; fits = record { party = party.1; act = act.fits } })

pub step_again : (s : Step) (more : List ℕ) → StepFits s → step_at (step_text s ++ more) ≡ Some (s, more)
unfolding step_at bytes_after
step_again s more fits =
    let low : 32 < 48 = omega arith in
    let grouped : step_text s ++ more ≡ decimal s.party ++ (32 ∷ (act_text s.act ++ more)) =
    ap (λ (x : List ℕ). x ++ more) (step_is s) ∙ append_assoc (decimal s.party) (32 ∷ act_text s.act) more in
    ap step_at grouped ∙ rw (name_again s.party 32 (act_text s.act ++ more) fits.party low, act_again s.act more fits.act) refl

pub step_shortens : (bytes : List ℕ) (s : Step) (rest : List ℕ) → bytes ≡ step_text s ++ rest → length rest < length bytes
step_shortens bytes s rest e =
    let n = ap length e in
    let m = ap length (step_is s) in
    omega (arith, n, m, length-append (step_text s) rest, length-append (decimal s.party) (32 ∷ act_text s.act))

-- ---- cells

-- the text of a kind, and the space behind it
abbrev kind_text : Kind → List ℕ
kind_text k = kind_name k ++ (32 ∷ [])

-- the text of a place
abbrev place_text : Place → List ℕ
place_text place.Park = codes "park"
place_text place.Spin = codes "spin"
place_text (place.Own p) = codes "own " ++ decimal p

-- the text of an option
abbrev option_text : Word → Bool → List ℕ
option_text word true = word
option_text word false = []

-- the text of a value held from the start
abbrev prime_text : ℕ → List ℕ
prime_text v = if v == 0 then [] else codes " prime " ++ decimal v

-- the options of a cell: once, leak, and the value held from the start
abbrev Options : Type 0
Options = (Bool × Bool) × ℕ

-- the text of the options, up to the end of the line
abbrev options_text : Options → List ℕ
options_text o = option_text (codes " once") o.0.0 ++ (option_text (codes " leak") o.0.1 ++ (prime_text o.1 ++ (10 ∷ [])))

-- a cell of this kind and place, with these options
abbrev cell_with : Kind → Place → Options → CellPlan
cell_with k p o = record { kind = k; retry = not o.0.0; leak = o.0.1; place = p; prime = o.1 }

prime_is : (v : ℕ) → line_rest (prime_words v) ≡ prime_text v ++ (10 ∷ [])
prime_is v = by (v == 0)
  where
    by : (b : Bool) → line_rest (if b then [] else codes "prime" ∷ decimal v ∷ []) ≡ (if b then [] else codes " prime " ++ decimal v) ++ (10 ∷ [])
    by true = refl
    by false = refl

options_are : (once leak : Bool) (v : ℕ) → line_rest (once_words (not once) ++ (leak_words leak ++ prime_words v)) ≡ options_text ((once, leak), v)
options_are true true v = ap (λ (x : List ℕ). codes " once leak" ++ x) (prime_is v)
options_are true false v = ap (λ (x : List ℕ). codes " once" ++ x) (prime_is v)
options_are false true v = ap (λ (x : List ℕ). codes " leak" ++ x) (prime_is v)
options_are false false v = prime_is v

place_is : (p : Place) (ws : List Word) → line_rest (place_words p ++ ws) ≡ 32 ∷ (place_text p ++ line_rest ws)
place_is place.Park ws = refl
place_is place.Spin ws = refl
place_is (place.Own p) ws = refl

cell_is : (k : Kind) (p : Place) (o : Options) (more : List ℕ) → cell_text (cell_with k p o) ++ more ≡ codes "cell " ++ (kind_text k ++ (place_text p ++ (options_text o ++ more)))
unfolding cell_text
cell_is k p o more =
    let behind : line_rest (place_words p ++ option_words (cell_with k p o)) ≡ 32 ∷ (place_text p ++ options_text o) =
    place_is p (option_words (cell_with k p o)) ∙ ap (λ (x : List ℕ). 32 ∷ (place_text p ++ x)) (options_are o.0.0 o.0.1 o.1) in
    ap (λ (x : List ℕ). codes "cell " ++ ((kind_name k ++ x) ++ more)) behind
    ∙ ap (λ (x : List ℕ). codes "cell " ++ x)
    (append_assoc (kind_name k) (32 ∷ (place_text p ++ options_text o)) more
    ∙ ap (λ (x : List ℕ). kind_name k ++ (32 ∷ x)) (append_assoc (place_text p) (options_text o) more)
    ∙ sym (append_assoc (kind_name k) (32 ∷ []) (place_text p ++ (options_text o ++ more))))

-- ---- what is spelled is read

kind_again : (k : Kind) (more : List ℕ) → kind_at (kind_text k ++ more) ≡ Some (k, more)
unfolding bytes_after
kind_again kind.Lazy more = refl
kind_again kind.LazyFinalize more = refl
kind_again kind.LockedLazy more = refl
kind_again kind.LockedLazyFinalize more = refl
kind_again kind.LockedLazyDroped more = refl
kind_again kind.PrimedLockedLazy more = refl
kind_again kind.PrimedLockedLazyDroped more = refl

-- a byte ends a number
abbrev Ends : List ℕ → Type 0
Ends more = (b : ℕ) × (rest : List ℕ) × (b < 48) × (more ≡ b ∷ rest)

options_end : (o : Options) (more : List ℕ) → Ends (options_text o ++ more)
options_end o more = by o.0.0 o.0.1 (o.1 == 0)
  where
    by : (once leak none : Bool) → Ends ((option_text (codes " once") once ++ (option_text (codes " leak") leak ++ ((if none then [] else codes " prime " ++ decimal o.1) ++ (10 ∷ [])))) ++ more)
    by true leak none = (32, _, omega arith, refl)
    by false true none = (32, _, omega arith, refl)
    by false false true = (10, _, omega arith, refl)
    by false false false = (32, _, omega arith, refl)

place_again : (p : Place) (more : List ℕ) → PlaceFits p → Ends more → place_at (place_text p ++ more) ≡ Some (p, more)
unfolding place_at own_at bytes_after
place_again place.Park more fits ends = refl
place_again place.Spin more fits ends = refl
place_again (place.Own p) more fits ends =
    rw ends.3 (rw (name_again p ends.0 ends.1 fits ends.2) refl)

prime_again : (v : ℕ) (more : List ℕ) → v < 2 ^ 64 → prime_at (prime_text v ++ (10 ∷ more)) ≡ Some (v, 10 ∷ more)
unfolding prime_at prime_value_at bytes_after
prime_again v more fits = by (v == 0) refl
  where
    by : (none : Bool) → (v == 0) ≡ none → prime_at ((if none then [] else codes " prime " ++ decimal v) ++ (10 ∷ more)) ≡ Some (v, 10 ∷ more)
    by true e = let z : v ≡ 0 = eqb-true v 0 e in rw z refl
    by false e = let low : 10 < 48 = omega arith in rw (number_again v 10 more fits low, e) refl

-- no option stands in front of the value
no_option : (v : ℕ) (more : List ℕ) → (bytes_after (codes " once") (prime_text v ++ (10 ∷ more)) ≡ None) × (bytes_after (codes " leak") (prime_text v ++ (10 ∷ more)) ≡ None)
unfolding bytes_after
no_option v more = by (v == 0)
  where
    by : (none : Bool) → let text : List ℕ = (if none then [] else codes " prime " ++ decimal v) ++ (10 ∷ more) in (bytes_after (codes " once") text ≡ None) × (bytes_after (codes " leak") text ≡ None)
    by true = (refl, refl)
    by false = (refl, refl)

flags_again : (once leak : Bool) (v : ℕ) (tail more : List ℕ) → (bytes_after (codes " once") tail ≡ None) × (bytes_after (codes " leak") tail ≡ None) → prime_at tail ≡ Some (v, 10 ∷ more)
    → options_at (option_text (codes " once") once ++ (option_text (codes " leak") leak ++ tail)) ≡ Some (((once, leak), v), more)
unfolding options_at option_at bytes_after
flags_again true true v tail more absent prime = rw prime refl
flags_again true false v tail more absent prime = rw (absent.1, prime) refl
flags_again false true v tail more absent prime = rw prime refl
flags_again false false v tail more absent prime = rw (absent.0, absent.1, prime) refl

options_again : (o : Options) (more : List ℕ) → o.1 < 2 ^ 64 → options_at (options_text o ++ more) ≡ Some (o, more)
options_again o more fits =
    let first : List ℕ = option_text (codes " once") o.0.0 in
    let second : List ℕ = option_text (codes " leak") o.0.1 in
    let third : List ℕ = prime_text o.1 in
    let grouped : options_text o ++ more ≡ first ++ (second ++ (third ++ (10 ∷ more))) =
    append_assoc first (second ++ (third ++ (10 ∷ []))) more
    ∙ ap (λ (x : List ℕ). first ++ x) (append_assoc second (third ++ (10 ∷ [])) more ∙ ap (λ (x : List ℕ). second ++ x) (append_assoc third (10 ∷ []) more)) in
    ap options_at grouped ∙ flags_again o.0.0 o.0.1 o.1 (third ++ (10 ∷ more)) more (no_option o.1 more) (prime_again o.1 more fits)

cell_with_again : (k : Kind) (p : Place) (o : Options) (more : List ℕ) → PlaceFits p → o.1 < 2 ^ 64 → cell_at (cell_text (cell_with k p o) ++ more) ≡ Some (cell_with k p o, more)
unfolding cell_at
cell_with_again k p o more place prime =
    let options : List ℕ = options_text o ++ more in
    ap cell_at (cell_is k p o more)
    ∙ rw (word_again (codes "cell ") (kind_text k ++ (place_text p ++ options)), kind_again k (place_text p ++ options), place_again p options place (options_end o more), options_again o more prime) refl

pub cell_again : (c : CellPlan) (more : List ℕ) → CellFits c → cell_at (cell_text c ++ more) ≡ Some (c, more)
cell_again c more fits = by c.retry
  where
    by : (retry : Bool) → let x : CellPlan = record { kind = c.kind; retry = retry; leak = c.leak; place = c.place; prime = c.prime } in cell_at (cell_text x ++ more) ≡ Some (x, more)
    by true = cell_with_again c.kind c.place ((false, c.leak), c.prime) more fits.place fits.prime
    by false = cell_with_again c.kind c.place ((true, c.leak), c.prime) more fits.place fits.prime

-- ---- what is read is spelled so

kinds_named : IsTable kind_text kind_table
kinds_named = (refl, (refl, (refl, (refl, (refl, (refl, (refl, tt)))))))

places_named : IsTable place_text place_table
places_named = (refl, (refl, tt))

-- what was read as a place
pub record TakesPlace (bytes : List ℕ) (p : Place) (rest : List ℕ) : Type 0 where
  pub spelling : bytes ≡ place_text p ++ rest
  pub fits : PlaceFits p

alone_fits : (rows : List (Word × Place)) (bytes : List ℕ) (p : Place) (rest : List ℕ) → AllByRecursion (λ row. PlaceFits row.1) rows → first_word rows bytes ≡ Some (p, rest) → PlaceFits p
alone_fits [] bytes p rest all e = absurd cc
alone_fits (row ∷ rows) bytes p rest all e = by (bytes_after row.0 bytes) e (λ e. alone_fits rows bytes p rest all.1 e)
  where
    by : (o : Option (List ℕ)) → word_else o row.1 (first_word rows bytes) ≡ Some (p, rest) → (first_word rows bytes ≡ Some (p, rest) → PlaceFits p) → PlaceFits p
    by None e other = other e
    by (Some after) e other = carry (λ (x : Place) (rest : List ℕ). PlaceFits x) row.1 p after rest e all.0

place_takes : (bytes : List ℕ) (p : Place) (rest : List ℕ) → place_at bytes ≡ Some (p, rest) → TakesPlace bytes p rest
unfolding place_at own_at
place_takes bytes p rest e = by (first_word place_table bytes) refl e
  where
    by : (o : Field Place) → first_word place_table bytes ≡ o → place_else o bytes ≡ Some (p, rest) → TakesPlace bytes p rest
    by (Some x) at e =
        let f : first_word place_table bytes ≡ Some (p, rest) = at ∙ e in
        record { spelling = row_takes place_text place_table bytes p rest places_named f; fits = alone_fits place_table bytes p rest (tt, (tt, tt)) f }
    by None at e =
        let s = bind_some (bytes_after (codes "own ") bytes) (λ rest. name_at rest >>= λ p. Some (place.Own p.0, p.1)) (p, rest) e in
        let n = bind_some (name_at s.0) (λ p. Some (place.Own p.0, p.1)) (p, rest) s.2 in
        let w = word_takes (codes "own ") bytes s.0 s.1 in
        let t = name_takes s.0 n.0.0 n.0.1 n.1 in
        carry (TakesPlace bytes) (place.Own n.0.0) p n.0.1 rest n.2
        (record { spelling = w ∙ ap (λ (x : List ℕ). codes "own " ++ x) t.0; fits = t.1 })

option_takes : (word : Word) (bytes : List ℕ) → bytes ≡ option_text word (option_at word bytes).0 ++ (option_at word bytes).1
unfolding option_at
option_takes word bytes = by (bytes_after word bytes) refl
  where
    by : (o : Option (List ℕ)) → bytes_after word bytes ≡ o → bytes ≡ option_text word (option_else o bytes).0 ++ (option_else o bytes).1
    by (Some rest) e = word_takes word bytes rest e
    by None e = refl

prime_takes : (bytes : List ℕ) (v : ℕ) (rest : List ℕ) → prime_at bytes ≡ Some (v, rest) → (bytes ≡ prime_text v ++ rest) × (v < 2 ^ 64)
unfolding prime_at prime_value_at
prime_takes bytes v rest e = by (bytes_after (codes " prime ") bytes) refl e
  where
    by : (o : Option (List ℕ)) → bytes_after (codes " prime ") bytes ≡ o → prime_else o bytes ≡ Some (v, rest) → (bytes ≡ prime_text v ++ rest) × (v < 2 ^ 64)
    by None at e = carry (λ (x : ℕ) (rest : List ℕ). (bytes ≡ prime_text x ++ rest) × (x < 2 ^ 64)) 0 v bytes rest e (refl, omega arith)
    by (Some start) at e =
        let n = bind_some (number_at start) (λ v. if v.0 == 0 then None else Some v) (v, rest) e in
        let p = unchosen (n.0.0 == 0) n.0 (v, rest) n.2 in
        let w = word_takes (codes " prime ") bytes start at in
        let t = number_takes start n.0.0 n.0.1 n.1 in
        let spelling : bytes ≡ prime_text n.0.0 ++ n.0.1 = rw p.0 (w ∙ ap (λ (x : List ℕ). codes " prime " ++ x) t.0) in
        carry (λ (x : ℕ) (rest : List ℕ). (bytes ≡ prime_text x ++ rest) × (x < 2 ^ 64)) n.0.0 v n.0.1 rest p.1 (spelling, t.1)

options_take : (bytes : List ℕ) (o : Options) (rest : List ℕ) → options_at bytes ≡ Some (o, rest) → (bytes ≡ options_text o ++ rest) × (o.1 < 2 ^ 64)
unfolding options_at
options_take bytes o rest e =
    let once : Bool × List ℕ = option_at (codes " once") bytes in
    let leak : Bool × List ℕ = option_at (codes " leak") once.1 in
    let v = bind_some (prime_at leak.1) (λ v. bytes_after (codes "\n") v.1 >>= λ rest. Some (((once.0, leak.0), v.0), rest)) (o, rest) e in
    let n = bind_some (bytes_after (codes "\n") v.0.1) (λ rest. Some (((once.0, leak.0), v.0.0), rest)) (o, rest) v.2 in
    let t = prime_takes leak.1 v.0.0 v.0.1 v.1 in
    let first : List ℕ = option_text (codes " once") once.0 in
    let second : List ℕ = option_text (codes " leak") leak.0 in
    let third : List ℕ = prime_text v.0.0 in
    let last : v.0.1 ≡ 10 ∷ n.0 = word_takes (codes "\n") v.0.1 n.0 n.1 in
    let behind_leak : leak.1 ≡ (third ++ (10 ∷ [])) ++ n.0 = t.0 ∙ ap (λ (x : List ℕ). third ++ x) last ∙ sym (append_assoc third (10 ∷ []) n.0) in
    let behind_once : once.1 ≡ (second ++ (third ++ (10 ∷ []))) ++ n.0 =
    option_takes (codes " leak") once.1 ∙ ap (λ (x : List ℕ). second ++ x) behind_leak ∙ sym (append_assoc second (third ++ (10 ∷ [])) n.0) in
    let spelling : bytes ≡ options_text ((once.0, leak.0), v.0.0) ++ n.0 =
    option_takes (codes " once") bytes ∙ ap (λ (x : List ℕ). first ++ x) behind_once ∙ sym (append_assoc first (second ++ (third ++ (10 ∷ []))) n.0) in
    carry (λ (x : Options) (rest : List ℕ). (bytes ≡ options_text x ++ rest) × (x.1 < 2 ^ 64)) ((once.0, leak.0), v.0.0) o n.0 rest n.2 (spelling, t.1)

-- the parts of a cell's line, one after another
cell_is_read : (bytes start after last rest : List ℕ) (k : Kind) (p : Place) (o : Options) → bytes ≡ codes "cell " ++ start → start ≡ kind_text k ++ after → after ≡ place_text p ++ last → last ≡ options_text o ++ rest → bytes ≡ cell_text (cell_with k p o) ++ rest
cell_is_read bytes start after last rest k p o word kind place options =
    let behind_kind : after ≡ place_text p ++ (options_text o ++ rest) = place ∙ ap (λ (x : List ℕ). place_text p ++ x) options in
    let behind_word : start ≡ kind_text k ++ (place_text p ++ (options_text o ++ rest)) = kind ∙ ap (λ (x : List ℕ). kind_text k ++ x) behind_kind in
    word ∙ ap (λ (x : List ℕ). codes "cell " ++ x) behind_word ∙ sym (cell_is k p o rest)

-- what was read as a cell
pub record TakesCell (bytes : List ℕ) (c : CellPlan) (rest : List ℕ) : Type 0 where
  pub spelling : bytes ≡ cell_text c ++ rest
  pub fits : CellFits c

abbrev planned : Kind → Place → Options × List ℕ → Option (CellPlan × List ℕ)
planned k p o = Some (cell_with k p o.0, o.1)

pub cell_takes : (bytes : List ℕ) (c : CellPlan) (rest : List ℕ) → cell_at bytes ≡ Some (c, rest) → TakesCell bytes c rest
unfolding cell_at
cell_takes bytes c rest e =
    let s = bind_some (bytes_after (codes "cell ") bytes) (λ start. kind_at start >>= λ k. place_at k.1 >>= λ p. options_at p.1 >>= planned k.0 p.0) (c, rest) e in
    let k = bind_some (kind_at s.0) (λ k. place_at k.1 >>= λ p. options_at p.1 >>= planned k.0 p.0) (c, rest) s.2 in
    let p = bind_some (place_at k.0.1) (λ p. options_at p.1 >>= planned k.0.0 p.0) (c, rest) k.2 in
    let o = bind_some (options_at p.0.1) (planned k.0.0 p.0.0) (c, rest) p.2 in
    let word = word_takes (codes "cell ") bytes s.0 s.1 in
    let kind = row_takes kind_text kind_table s.0 k.0.0 k.0.1 kinds_named k.1 in
    let place = place_takes k.0.1 p.0.0 p.0.1 p.1 in
    let options = options_take p.0.1 o.0.0 o.0.1 o.1 in
    carry (TakesCell bytes) (cell_with k.0.0 p.0.0 o.0.0) c o.0.1 rest o.2
    (record {
      spelling = cell_is_read bytes s.0 k.0.1 p.0.1 o.0.1 k.0.0 p.0.0 o.0.0 word kind place.spelling options.0;
      fits = record { place = place.fits; prime = options.1 };
    })

filled : (c : CellPlan) → 0 < length (cell_text c)
unfolding cell_text
filled c = omega arith

pub cell_shortens : (bytes : List ℕ) (c : CellPlan) (rest : List ℕ) → bytes ≡ cell_text c ++ rest → length rest < length bytes
cell_shortens bytes c rest e =
    let n = ap length e in
    omega (arith, n, filled c, length-append (cell_text c) rest)

-- ---- one after another

pub one_more : {A : Type 0} (f : A → List ℕ) (text : List ℕ) (xs : List A) (x : A) (rest after : List ℕ) → text ≡ flat_map f xs ++ rest → rest ≡ f x ++ after → text ≡ flat_map f (xs ++ x ∷ []) ++ after
one_more f text xs x rest after so_far next =
    so_far ∙ ap (λ (r : List ℕ). flat_map f xs ++ r) next ∙ sym (append_assoc (flat_map f xs) (f x) after) ∙ ap (λ (r : List ℕ). r ++ after) (flat_map_more f [] xs x)

pub all_push : {A : Type 0} (P : A → Type 0) (xs : List A) (x : A) → AllByRecursion P xs → P x → AllByRecursion P (xs ++ x ∷ [])
all_push P [] x h p = (p, tt)
all_push P (y ∷ ys) x h p = (h.0, all_push P ys x h.1 p)

-- two lists of lines that spell one text are one
pub same : {A : Type 0} (at : List ℕ → Option (A × List ℕ)) (f : A → List ℕ) (Fits : A → Type 0)
    → ((x : A) (more : List ℕ) → Fits x → at (f x ++ more) ≡ Some (x, more))
    → (xs ys : List A) (m n : List ℕ) → AllByRecursion Fits xs → AllByRecursion Fits ys → at m ≡ None → at n ≡ None
    → flat_map f xs ++ m ≡ flat_map f ys ++ n → (xs ≡ ys) × (m ≡ n)
same at f Fits again [] [] m n p q h k e = (refl, e)
same at f Fits again [] (y ∷ ys) m n p q h k e =
    let grouped = e ∙ append_assoc (f y) (flat_map f ys) n in
    let read = ap at grouped ∙ again y (flat_map f ys ++ n) q.0 in
    absurd cc
same at f Fits again (x ∷ xs) [] m n p q h k e =
    let grouped = sym e ∙ append_assoc (f x) (flat_map f xs) m in
    let read = ap at grouped ∙ again x (flat_map f xs ++ m) p.0 in
    absurd cc
same at f Fits again (x ∷ xs) (y ∷ ys) m n p q h k e =
    let grouped = sym (append_assoc (f x) (flat_map f xs) m) ∙ e ∙ append_assoc (f y) (flat_map f ys) n in
    let read = sym (again x (flat_map f xs ++ m) p.0) ∙ ap at grouped ∙ again y (flat_map f ys ++ n) q.0 in
    let parts = some_pair_parts x y (flat_map f xs ++ m) (flat_map f ys ++ n) read in
    let t = same at f Fits again xs ys m n p.1 q.1 h k parts.1 in
    (cc, t.1)
