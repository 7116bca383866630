-- What stands open after an attempt: of a call or a turn, a first one or one more.
use Rattle.phase_acts.proofs.Words.{[], ◌++◌, ◌==◌, ◌∙◌, ◌∷◌, ◌≡◌, accepts, Act, act_for, act_of, answer_missed, answered, ap, arith, Asked, attempt, back_by, Bool, Call}
use Rattle.phase_acts.proofs.Words.{call_left, Calls, cell_at, cell_concerned, CellPlan, changes_asked, changes_at, Content, content_after_back, content_back, due_answer}
use Rattle.phase_acts.proofs.Words.{due_tried, effect, ended_turns, Event, event, false, Given, given_concerned, given_first, given_on, Guard, guarded, guards, guards_by, How}
use Rattle.phase_acts.proofs.Words.{if◌then◌else◌, is_declined, is_exit, is_fast, left, length, List, None, none_without, Option, owner, owner_by, Phase, phase_at, reader}
use Rattle.phase_acts.proofs.Words.{ReadTicket, refl, Registry, registry, registry_asked, registry_by, registry_of_run, registry_taken, replay, sections, sections_by, Some}
use Rattle.phase_acts.proofs.Words.{Standing, standing, step_of, sym, tolerance_at, took, true, turn_ended, Turns, turns_by, Wait, wait_of, waits, waits_given_with, Want}
use Rattle.phase_acts.proofs.Words.{with_wait, without_guard, without_wait, writer, writer_asked, WriteTicket, ℕ}
use Rattle.exit_registry.specs.declared.turns.Turn.TheVariants as turn
use Rattle.phase_locker.specs.declared.ways.Given.TheVariants as given
use Rattle.schedule_rules.specs.declared.line.Answer.TheVariants as answer
use Rattle.schedule_rules.specs.declared.step.Act.TheVariants as act
use Rattle.schedule_rules.specs.Deeds.{Deed, Visits, deed_running, deed_phased, deed_read, deed_shown, deed_visited, deed_written, deed_waiting, is_of_exit}
use Rattle.phase_moves.specs.declared.rows.Taken.TheVariants as taken

-- the standing of a history, once the exit was taken so far
abbrev pub standing_at : List CellPlan → List Event → Registry → Option ℕ → Standing
standing_at cells h r o = record (standing cells h) { registry = r; owner = o }

-- the act attempts this at the cell: a call, a turn, or one more attempt
pub record IsAttempt (cells : List CellPlan) (h : List Event) (p : ℕ) (a : Act) (c : ℕ) (w : Want) (r : Registry) (o : Option ℕ) : Type 0 where
  pub attempted : attempt cells h (step_of p a) ≡ Some (record { cell = c; want = w })
  pub concerned : cell_concerned cells h (step_of p a) ≡ Some c
  pub does : act_of h (step_of p a) ≡ act_for c w
  pub tries : (vs : List Wait) (chosen : Bool) → due_answer cells h (step_of p a) vs chosen ≡ due_tried cells h p (attempt cells h (step_of p a)) vs chosen
  pub taken : registry_taken (is_exit a) (registry cells h) ≡ r
  pub owned : owner_by p (is_exit a) (owner h) ≡ o

-- no section is given back where nothing happened in it
same_content : (cells : List CellPlan) (c d : ℕ) (y : Content) → content_after_back cells d (Some (record { cell = c; changes = [] })) y ≡ y
same_content cells c d y = by (c == d)
  where
    by : (b : Bool) → (if b then y else y) ≡ y
    by true = refl
    by false = refl

module _ (cells : List CellPlan) (h : List Event) (p : ℕ) (a : Act) (c : ℕ) (w : Want) (r : Registry) (o : Option ℕ) (k : IsAttempt cells h p a c w r o) where
  abbrev ws : List Wait
  ws = waits cells h

  -- what is left of who waits
  gave : (d : Given) → waits_given_with cells ws h (step_of p a) d (without_wait p ws) ≡ given_on c d (without_wait p ws)
  gave d = given_concerned cells ws h (step_of p a) c d (without_wait p ws) k.concerned

  -- what stands open after a deed, where these calls wait
  abbrev by_deed : Deed → List Wait → Standing
  by_deed d vs =
      record {
        plans = cells;
        waits = vs;
        sections = sections_by h p d (sections h);
        guards = guards_by (length h) p d (sections h) (guards h);
        content = λ x. content_after_back cells x (back_by p d (sections h) (guards h)) (replay cells x h);
        registry = registry_by cells h d (registry cells h);
        owner = owner_by p (is_of_exit d) (owner h);
        turns = turns_by p d (sections h) (ended_turns h);
      }

  -- what waits takes a turn, or does nothing
  waiting_so : (e : Bool) (vs : List Wait) → by_deed (deed_waiting e) vs ≡ record (standing cells h) { waits = vs; registry = registry_taken e (registry cells h); owner = owner_by p e (owner h) }
  waiting_so true vs = refl
  waiting_so false vs = refl

  -- it waits
  pub try_waits : (how : How) (d : Given) → standing cells (event p a (record { answer = answer.Waiting how; given = d }) ∷ h) ≡ took (length h) p c w d (taken.Wait how) (standing_at cells h r o)
  try_waits how d =
      let waits_are = ap (λ x. with_wait p how x (waits_given_with cells ws h (step_of p a) d (without_wait p ws))) k.attempted ∙ ap (λ vs. record { party = p; cell = c; want = w; way = how; woken = false } ∷ vs) (gave d) in
      waiting_so (is_exit a) (with_wait p how (attempt cells h (step_of p a)) (waits_given_with cells ws h (step_of p a) d (without_wait p ws))) ∙ (λ i. record (standing cells h) { waits = waits_are i; registry = k.taken i; owner = k.owned i })

  -- a turn is skipped
  pub try_skips : w ≡ Turns → (q : Phase) (d : Given) → standing cells (event p a (record { answer = answer.Skipped c; given = d }) ∷ h) ≡ turn_ended c turn.Skipped (took (length h) p c w d (taken.Nothing q) (standing_at cells h r o))
  try_skips turns q d =
      let content_is : (x : ℕ) → replay cells x h ≡ content_back (Some (record { cell = c; changes = changes_at c w (standing_at cells h r o) })) (standing_at cells h r o) x = λ x. sym (ap (λ v. content_back (Some (record { cell = c; changes = changes_at c v (standing_at cells h r o) })) (standing_at cells h r o) x) turns ∙ same_content cells c x (replay cells x h)) in
      λ i. record (standing cells h) { waits = gave d i; content = λ x. content_is x i; registry = k.taken i; owner = k.owned i; turns = ended_turns h ++ record { cell = c; turn = turn.Skipped } ∷ [] }

  -- a turn's finalizer runs
  pub try_finalizes : accepts h ≡ r.is_open → w ≡ Turns → (d : Given) → standing cells (event p a (record { answer = answer.Finalizing c; given = d }) ∷ h) ≡ took (length h) p c w d taken.Runs (standing_at cells h r o)
  try_finalizes accepted turns d =
      let registry_is : registry_taken (is_exit a) (registry cells h) ≡ registry_asked c w (standing_at cells h r o) = k.taken ∙ ap (λ v. registry_asked c v (standing_at cells h r o)) (sym turns) in
      λ i. record (standing cells h) { waits = gave d i; sections = record { party = p; cell = c; want = turns_i i; start = length h; is_open = accepted i } ∷ sections h; registry = registry_is i; owner = k.owned i }
    where
      turns_i : Turns ≡ w
      turns_i = sym turns

  -- ---- a call

  module _ (j : Call) (calls : w ≡ Calls j) (same : r ≡ registry cells h) (accepted : accepts h ≡ r.is_open) where
    does_call : act_of h (step_of p a) ≡ act.Call c j
    does_call = k.does ∙ ap (act_for c) calls

    -- no Exit calls
    no_exit : is_exit a ≡ false
    no_exit = by a does_call
      where
        by : (b : Act) → act_of h (step_of p b) ≡ act.Call c j → is_exit b ≡ false
        by act.Exit e = absurd (cc)
        by b e = refl

    its_own : owner h ≡ o
    its_own = ap (λ e. owner_by p e (owner h)) (sym no_exit) ∙ k.owned

    -- it is turned away, and nothing changes
    module _ (awake : wait_of p ws ≡ None) where
      same_then : record (standing cells h) { waits = without_wait p ws } ≡ standing_at cells h r o
      same_then = λ i. record (standing cells h) { waits = none_without p ws awake i; registry = sym same i; owner = its_own i }

      pub try_cyclic : standing cells (event p a (record { answer = answer.Cyclic; given = given.Nobody }) ∷ h) ≡ standing_at cells h r o
      try_cyclic = same_then

      pub try_missed : standing cells (event p a (record { answer = answer_missed (Calls j); given = given.Nobody }) ∷ h) ≡ standing_at cells h r o
      try_missed = by (is_fast (Calls j))
        where
          by : (f : Bool) → standing cells (event p a (record { answer = if f then answer.Missed else answer.Borrowed; given = given.Nobody }) ∷ h) ≡ standing_at cells h r o
          by true = same_then
          by false = same_then

    -- its generator runs
    pub try_runs : (d : Given) → standing cells (event p a (record { answer = answer.Running; given = d }) ∷ h) ≡ took (length h) p c w d taken.Runs (standing_at cells h r o)
    try_runs d =
        let sections_are : record { party = p; cell = c; want = Calls j; start = length h; is_open = accepts h } ∷ sections h ≡ record { party = p; cell = c; want = w; start = length h; is_open = r.is_open } ∷ sections h = λ i. record { party = p; cell = c; want = sym calls i; start = length h; is_open = accepted i } ∷ sections h in
        let registry_is : registry_of_run cells c (phase_at cells c h) (registry cells h) ≡ registry_asked c w (standing_at cells h r o) = ap (λ x. registry_of_run cells c (phase_at cells c h) x) (sym same) ∙ ap (λ v. registry_asked c v (standing_at cells h r o)) (sym calls) in
        ap (λ b. by_deed (deed_running b) (waits_given_with cells ws h (step_of p a) d (without_wait p ws))) does_call
        ∙ (λ i. record (standing cells h) { waits = gave d i; sections = sections_are i; registry = registry_is i; owner = its_own i })

    -- what stands open once its section was given back
    abbrev pub left_open : Given → Standing
    left_open d = answered p c d (changes_at c w (standing_at cells h r o)) (standing_at cells h r o)

    -- what was asked is published where it was declined
    asked : (x : ℕ) → content_after_back cells x (Some (record { cell = c; changes = Asked (accepts h) j ∷ [] })) (replay cells x h) ≡ content_back (Some (record { cell = c; changes = changes_at c w (standing_at cells h r o) })) (standing_at cells h r o) x
    asked x =
        ap (λ b. content_after_back cells x (Some (record { cell = c; changes = Asked b j ∷ [] })) (replay cells x h)) accepted ∙ by (c == x) refl ∙ ap (λ v. content_back (Some (record { cell = c; changes = changes_at c v (standing_at cells h r o) })) (standing_at cells h r o) x) (sym calls)
      where
        by : (b : Bool) → (c == x) ≡ b → (if b then effect (cell_at cells x) (Asked r.is_open j ∷ []) (replay cells x h) else replay cells x h) ≡ (if b then effect (cell_at cells x) (changes_asked (cell_at cells c) (Calls j) r.is_open (replay cells c h)) (replay cells x h) else replay cells x h)
        by false e = refl
        by true e = let same_cell : c ≡ x = grind (arith, e) in ap (λ z. effect (cell_at cells z) (Asked r.is_open j ∷ []) (replay cells z h)) (sym same_cell) ∙ sym (call_left (cell_at cells c) j r.is_open (replay cells c h)) ∙ ap (λ z. effect (cell_at cells z) (changes_asked (cell_at cells c) (Calls j) r.is_open (replay cells c h)) (replay cells z h)) same_cell

    -- its section was given back, and it was told the phase, or that the value may not be accessed
    visited : (d : Given) → by_deed (Visits c (Asked (accepts h) j ∷ []) false) (waits_given_with cells ws h (step_of p a) d (without_wait p ws)) ≡ left_open d
    visited d = λ i. record (standing cells h) { waits = gave d i; content = λ x. asked x i; registry = sym same i; owner = its_own i }

    pub try_told : (q : Phase) (d : Given) → standing cells (event p a (record { answer = answer.Phase q; given = d }) ∷ h) ≡ left_open d
    try_told q d = ap (λ b. by_deed (deed_phased (accepts h) b) (waits_given_with cells ws h (step_of p a) d (without_wait p ws))) does_call ∙ visited d

    pub try_denied : (q : Phase) (d : Given) → standing cells (event p a (record { answer = answer.Access q; given = d }) ∷ h) ≡ left_open d
    try_denied q d = ap (λ b. by_deed (deed_visited (accepts h) false b) (waits_given_with cells ws h (step_of p a) d (without_wait p ws))) does_call ∙ visited d

    -- it reads on
    pub try_falls_back : (d : Given) → standing cells (event p a (record { answer = answer.ErrGuard; given = d }) ∷ h) ≡ guarded (reader (length h) p c) (left_open d)
    try_falls_back d =
        ap (λ b. by_deed (deed_visited (accepts h) true b) (waits_given_with cells ws h (step_of p a) d (without_wait p ws))) does_call
        ∙ (λ i. record (standing cells h) { waits = gave d i; guards = reader (length h) p c ∷ guards h; content = λ x. asked x i; registry = sym same i; owner = its_own i })

    -- it accesses the value: nothing happened to its cell
    module _ (undeclined : is_declined (cell_at cells c).kind (tolerance_at cells c) j r.is_open (phase_at cells c h) ≡ false) where
      nothing : changes_at c w (standing_at cells h r o) ≡ []
      nothing = ap (λ v. changes_at c v (standing_at cells h r o)) calls ∙ ap (λ b. if b then Asked r.is_open j ∷ [] else []) undeclined

      content_is : (x : ℕ) → replay cells x h ≡ content_back (Some (record { cell = c; changes = changes_at c w (standing_at cells h r o) })) (standing_at cells h r o) x
      content_is x = sym (ap (λ chs. content_back (Some (record { cell = c; changes = chs })) (standing_at cells h r o) x) nothing ∙ same_content cells c x (replay cells x h))

      pub try_shown : (v : ℕ) (d : Given) → standing cells (event p a (record { answer = answer.Value v; given = d }) ∷ h) ≡ left_open d
      try_shown v d =
          ap (λ b. by_deed (deed_shown (accepts h) b) (waits_given_with cells ws h (step_of p a) d (without_wait p ws))) does_call
          ∙ (λ i. record (standing cells h) { waits = gave d i; content = λ x. content_is x i; registry = sym same i; owner = its_own i })

      pub try_reads : (d : Given) → standing cells (event p a (record { answer = answer.ReadGuard; given = d }) ∷ h) ≡ guarded (reader (length h) p c) (left_open d)
      try_reads d =
          ap (λ b. by_deed (deed_read b) (waits_given_with cells ws h (step_of p a) d (without_wait p ws))) does_call
          ∙ (λ i. record (standing cells h) { waits = gave d i; guards = reader (length h) p c ∷ guards h; content = λ x. content_is x i; registry = sym same i; owner = its_own i })

      pub try_writes : (t : WriteTicket) (q : Phase) (d : Given) → standing cells (event p a (record { answer = answer.WriteGuard; given = d }) ∷ h) ≡ took (length h) p c w d (taken.Write t q) (standing_at cells h r o)
      try_writes t q d =
          let guards_are : writer (length h) p c ∷ guards h ≡ writer_asked (length h) p c (changes_at c w (standing_at cells h r o)) ∷ guards h = ap (λ chs. writer_asked (length h) p c chs ∷ guards h) (sym nothing) in
          ap (λ b. by_deed (deed_written b) (waits_given_with cells ws h (step_of p a) d (without_wait p ws))) does_call
          ∙ (λ i. record (standing cells h) { waits = gave d i; guards = guards_are i; registry = sym same i; owner = its_own i })

    -- a lock that it gives back leaves that
    module _ (first last : Given) (one : given_on c last (given_on c first (without_wait p ws)) ≡ given_on c (given_first first last) (without_wait p ws)) where
      head_off : (x : Guard) → x.number ≡ length h → without_guard (length h) (x ∷ guards h) ≡ guards h
      head_off x e = grind (arith, e)

      pub read_left : (t : ReadTicket) (q : Phase) → left_open (given_first first last) ≡ left (reader (length h) p c) last (took (length h) p c w first (taken.Read t q) (standing_at cells h r o))
      read_left t q = let guards_are : guards h ≡ without_guard (length h) (reader (length h) p c ∷ guards h) = sym (head_off (reader (length h) p c) refl) in λ i. record (left_open last) { waits = sym one i; guards = guards_are i }

      pub write_left : (t : WriteTicket) (q : Phase) → left_open (given_first first last) ≡ left (writer_asked (length h) p c (changes_at c w (standing_at cells h r o))) last (took (length h) p c w first (taken.Write t q) (standing_at cells h r o))
      write_left t q = let guards_are : guards h ≡ without_guard (length h) (writer_asked (length h) p c (changes_at c w (standing_at cells h r o)) ∷ guards h) = sym (head_off (writer_asked (length h) p c (changes_at c w (standing_at cells h r o))) refl) in λ i. record (left_open last) { waits = sym one i; guards = guards_are i }
