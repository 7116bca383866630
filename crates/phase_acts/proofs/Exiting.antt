-- The steps of the exit: who may make one, and the look for registered cells.
use Rattle.phase_acts.proofs.Words.{[], ◌||◌, ◌∙◌, ◌≡◌, accepts, answer_of_look, ap, arith, attempt_of_turn, Bool, CellPlan, due_answer, due_tried, Event, exit_looks}
use Rattle.phase_acts.proofs.Words.{false, first_of, HasStepped, Holders, innermost, is_closed, is_other, is_some, IsAwake, IsTrying, IsTurn, KeptGuards, KeptWith, length, Line}
use Rattle.phase_acts.proofs.Words.{List, LockerKind, Looks, MayLook, MayTry, no_exit, None, not, open-accepts, Option, other_waits, owned, owner, owner_by, Owns, Pushes, refl}
use Rattle.phase_acts.proofs.Words.{refusal, registry, rest_of, round_looked, Rows, Running, running_of, RunsBy, Section, sections, Some, Standing, standing, step_of, sym}
use Rattle.phase_acts.proofs.Words.{TakesTurn, Tries, true, turn_taken, Turns, ℕ}
use Rattle.std.proofs.lemmas.Bool.{or_parts}
use Rattle.exit_registry.specs.declared.registry.Look.{Look}
use Rattle.phase_locker.specs.declared.ways.Given.TheVariants as given
use Rattle.schedule_rules.specs.declared.step.Act.TheVariants as act
use Rattle.phase_moves.specs.declared.rows.GuardRow.TheVariants as guard
use Rattle.phase_acts.proofs.Causes.{turn_trying, turn_steps}
use Rattle.phase_acts.proofs.Lines.{refusal_awake}
use Rattle.phase_acts.proofs.Stepping.{ended_free, guards_both, guards_room, guards_with}

-- where there is no first, there is none
none_first : (cs : List ℕ) → first_of cs ≡ None → cs ≡ []
none_first cs e = grind (arith, e)

-- a party that runs a section is told one
some_told : (m : Standing) (o : Option Section) → is_some (running_of m o) ≡ is_some o
some_told m o = grind (arith)

-- whom no other party owns, the party owns
mine_first : (o : Option ℕ) (p : ℕ) → is_other o p ≡ false → owner_by p true o ≡ Some p
mine_first o p e = grind (arith, e)

twice : (b : Bool) → not (not b) ≡ b
twice b = grind (arith)

module _ {L : Type 0} {held : L → Holders} {place : L → LockerKind} {old : Rows L} {p : ℕ} {cells : List CellPlan} {h : List Event} (is : IsAwake held place cells h old p act.Exit) where
  abbrev m : Standing
  m = standing cells h

  abbrev n : ℕ
  n = length old.guards.items

  pub inside_is : (r : Option Running) → RunsBy held place old p r → is_some r ≡ is_some (innermost p (sections h))
  inside_is r told = ap (λ o. is_some o) (told m is.next.follows.rests is.next.known.party) ∙ some_told m (innermost p (sections h))

  module _ (begun : Bool) (tells : begun ≡ (is_other old.exit.owner p || not old.exit.registry.is_open)) where
    -- the exit is another party's, or has ended
    begun_is : begun ≡ (is_other (owner h) p || is_closed h)
    begun_is =
        let k = is.next.follows.rests.stands.exit in
        let open_is : old.exit.registry.is_open ≡ accepts h = ap (λ r. r.is_open) k.registry_is ∙ open-accepts cells h is.next.follows.legal in
        tells ∙ (λ i. is_other (k.owner_is i) p || not (open_is i)) ∙ ap (λ b. is_other (owner h) p || b) (twice (is_closed h))

    pub exit_refusal : (a b : Bool) → begun ≡ a → is_some (innermost p (sections h)) ≡ b → refusal cells h (step_of p act.Exit) ≡ no_exit a b
    exit_refusal a b e f = refusal_awake cells h p is.awake act.Exit ∙ (λ i. no_exit ((sym begun_is ∙ e) i) (f i))

    module _ (free : begun ≡ false) (none_refused : refusal cells h (step_of p act.Exit) ≡ None) {first next : Rows L} (owns : Owns held place old p first) (kept : KeptGuards old first) (o : Option ℕ) (takes : TakesTurn held place first o next) (kept_on : KeptGuards first next) where
      not_other : is_other (owner h) p ≡ false
      not_other = (or_parts (is_other (owner h) p) (is_closed h) (sym begun_is ∙ free)).0

      turn : IsTurn held place n (owned p m) first o next
      turn = takes n (owned p m) (owns n m is.next.follows.rests.stands)

      -- ---- the turn of a cell

      module _ (c : ℕ) (some : o ≡ Some c) where
        trying : IsTrying held place (turn_taken (owned p m)) next p (record { cell = c; want = Turns }) false
        trying = turn_trying c is (sym turn.first ∙ some) (mine_first (owner h) p not_other) none_refused (guards_both kept kept_on) turn.stands (let a = turn.inside c some in let b = kept.kept.cells in omega (arith, a, b))

        pub may_turn : MayTry held place next p (record { cell = c; want = Turns }) false
        may_turn = record { m = turn_taken (owned p m); is = trying; room = guards_room (guards_both kept kept_on) is.next.room }

        pub did_turn : (l : Line) (new : Rows L) → Tries held place next p (record { cell = c; want = Turns }) false l new → KeptWith 1 next new → HasStepped held place cells h old (step_of p act.Exit) l new
        did_turn l new tries last = turn_steps c is (sym turn.first ∙ some) (mine_first (owner h) p not_other) none_refused (guards_both kept kept_on) turn.stands l (tries (turn_taken (owned p m)) trying) last

      -- ---- a look

      module _ (none : o ≡ None) where
        none_left : (registry cells h).left ≡ []
        none_left = none_first (registry cells h).left (sym turn.first ∙ none)

        pub may_look : MayLook held place next
        may_look = record { hand = n; m = turn_taken (owned p m); stands = turn.stands; none_left = ap (λ cs. rest_of cs) none_left }

        pub did_look : (look : Look) (seen new : Rows L) → Looks held place next look seen → KeptGuards next seen → (line : Line) → line ≡ record { answer = answer_of_look look; given = given.Nobody } → Pushes held place seen guard.Free new → KeptWith 1 seen new
            → HasStepped held place cells h old (step_of p act.Exit) line new
        did_look look seen new looks still line line_is push last =
            let k = looks n (turn_taken (owned p m)) turn.stands in
            let ws = other_waits cells h (step_of p act.Exit) in
            let due : due_answer cells h (step_of p act.Exit) ws false ≡ answer_of_look look = ap (λ cs. due_tried cells h p (attempt_of_turn (first_of cs)) ws false) none_left ∙ ap answer_of_look (sym k.0) in
            ended_free is none_refused (answer_of_look look) given.Nobody due line line_is (guards_with (guards_both kept (guards_both kept_on still)) last) n seen push (round_looked (owned p m)) (exit_looks cells h p not_other is.awake look) k.1 is.next.follows.rests.empty refl
