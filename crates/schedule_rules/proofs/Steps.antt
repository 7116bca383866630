-- What holds in each case, holds of each legal step.
use Rattle.schedule_rules.proofs.Words.{ℕ, arith, List, ◌≡◌, Bool, true, refl, Some, false, ◌∙◌, sym, ap, None, subst, ◌&&◌, not, ◌==◌, if◌then◌else◌, is_none, Option, phase_of}
use Rattle.schedule_rules.proofs.Words.{LockNature, is_primed, lends_value, is_finalizable, Call, Kind, Form, Held, Shown, Told, Answer, Line, Refusal, CellPlan, Act, Step, Calls}
use Rattle.schedule_rules.proofs.Words.{cell_at, tolerance_at, is_accessible, finishes_so, Success, phase_reached, asks_to_lend, content_of_run, Event, accepts, sections, Section}
use Rattle.schedule_rules.proofs.Words.{innermost, is_turn, Guard, guards, numbered, own, replay, phase_at, finishing, Wait, is_barred, holding_with, refusal, no_lending, no_call}
use Rattle.schedule_rules.proofs.Words.{ends_run, writes_of, no_guard, no_outcome, no_reader, no_writer, refusal_to_lend, ends_turn, answer_of_value, answer_made_to_lend}
use Rattle.schedule_rules.proofs.Words.{answer_at, answer_lent, answer_made, answer_of_made, due_answer, due_clone, due_finished, due_made, phase_made, IsLegalLine, answer_of}
use Rattle.schedule_rules.proofs.Words.{due_at, waits_judged}
use Rattle.schedule_rules.proofs.Cases.{step, Case, Generating, Lendable, AsksToLend, Reach, form_at, writes}
use Rattle.schedule_rules.proofs.Attempts.{rests, mine_where_none, attempted, again, exits}
use Rattle.schedule_rules.proofs.Answered.{due_at-judged}
use Rattle.schedule_rules.proofs.Facts.{first, second}

-- an outcome that is not refused ends its section so
ends_so : (b : Bool) → no_outcome (Some b) ≡ None → b ≡ true
ends_so b f = grind arith

-- what is not refused for want of a guard names an open one
is_opened : (f : Option Bool → Option Refusal) (p : ℕ) (o : Option Guard) → (f None ≡ None → ⊥) → f (writes_of (own p o)) ≡ None
    → (x : Guard) × (o ≡ Some x) × (f (Some x.writes) ≡ None)
is_opened f p o none e = grind arith

-- a guard that is needed to write, writes
is_writer : (b : Bool) → no_writer (Some b) ≡ None → b ≡ true
is_writer b e = grind arith

-- one that is needed to read, does not
is_reader : (b : Bool) → no_reader (Some b) ≡ None → b ≡ false
is_reader b e = grind arith

none_used : (n : ℕ) → not (n == 0) ≡ false → n ≡ 0
none_used n f = grind arith

no_refusal : (r : Refusal) → Some r ≡ None → ⊥
no_refusal r e = cc

-- a cell whose value is lent is of a kind that lends it, and not in use
is_lendable : (other has used : Bool) → no_lending (no_call other has) used ≡ None → (has ≡ true) × (used ≡ false)
is_lendable other has used e = grind arith

-- kinds that lend a value are not registered
pub lent_unregistered : (q : Kind) → lends_value q ≡ true → is_finalizable q ≡ false
lent_unregistered q e = grind arith

-- nor primed
pub lent_unprimed : (q : Kind) → lends_value q ≡ true → is_primed q ≡ false
lent_unprimed q e = grind arith

-- a value that is made to be lent may be accessed
pub made_accessible : (q : Kind) (o : Bool) (p : ℕ) → lends_value q ≡ true → is_accessible q (phase_reached q o p Success) ≡ true
made_accessible q o p e = grind arith

module _ (cells : List CellPlan) (h : List Event) (p : ℕ) where
  -- nobody uses a cell whose value is lent
  free_to_lend : (c : ℕ) → refusal_to_lend cells h p c ≡ None → Lendable cells h p c
  free_to_lend c e = grind (arith, is_lendable, none_used)

  -- so it is with an act that is to lend it, and is not refused
  pub lendable : (c : ℕ) (made : Option ℕ) (left : ℕ) → refusal cells h (step cells h p (Act.GetMut c made left)) ≡ None → Lendable cells h p c
  lendable c made left f = free_to_lend c (rests cells h p (Act.GetMut c made left) (no_refusal _) f).1

  pub lendable_so : (c left : ℕ) → refusal cells h (step cells h p (Act.TryGetMut c left)) ≡ None → Lendable cells h p c
  lendable_so c left f = free_to_lend c (rests cells h p (Act.TryGetMut c left) (no_refusal _) f).1

module _ (cells : List CellPlan) (h : List Event) (p : ℕ) where
  -- the section of a generator
  generates : (o : Option Section) → innermost p (sections h) ≡ o → no_outcome (ends_run o) ≡ None
      → (t : Section) × (j : Call) × (o ≡ Some t) × Generating cells h p t j
  generates o e f = grind arith

  -- a value made
  makes : (v : ℕ) (t : Section) (j : Call) → Generating cells h p t j → Case cells h p (Act.Made v) (due_made cells h v (Some t))
  makes v t j g = subst (λ u. Case cells h p (Act.Made v) (answer_of_made (cell_at cells t.cell).kind u v (phase_made cells h t))) (sym g.kind) (by (form_at cells h p t.cell j) refl)
    where
      by : (f : Form) → form_at cells h p t.cell j ≡ f → Case cells h p (Act.Made v) (answer_made f v (phase_made cells h t))
      by (Told tests) e = Case.made_told v t j _ g
      by Shown e = Case.made v t j g
      by (Held true falls_back) e = Case.made_to_write v t j g (ap writes e)
      by (Held false falls_back) e = Case.made_to_read v t j g

  -- a finalizer that ends
  ends : (fine : Bool) (left : Option ℕ) (o : Option Section) → innermost p (sections h) ≡ o → no_outcome (ends_turn cells fine left o) ≡ None
      → Case cells h p (finishing fine left) (due_finished cells h fine o)
  ends fine left None e f = absurd (cc)
  ends fine left (Some t) e f =
      let both : _ = ends_so (is_turn t.want && finishes_so (cell_at cells t.cell).kind fine left) f in
      Case.finished fine left t (record { found = e; kind = first _ _ both; so = second (is_turn t.want) _ both })

  -- a clone
  clones : (g : ℕ) (ws : List Wait) (x : Guard) → numbered g (guards h) ≡ Some x → x.writes ≡ false → Case cells h p (Act.Clone g) (due_clone cells h ws (Some x))
  clones g ws x e d =
      elim (is_barred LockNature.Read (holding_with x.cell h ws)) as (λ b. Case cells h p (Act.Clone g) (if b then Answer.Borrowed else Answer.ReadGuard))
      [ true ↦ Case.borrowed g x e d | false ↦ Case.cloned g x e d ]

  -- the value of the cell is lent as it is, where it may be accessed
  found : (a : Act) (c : ℕ) → (Reach cells h p c true → Case cells h p a (answer_of_value (replay cells c h))) → (Reach cells h p c false → Case cells h p a (Answer.Access (phase_of (phase_at cells c h))))
      → Case cells h p a (answer_lent (cell_at cells c).kind (replay cells c h))
  found a c shows denies = grind (arith, Case)

  -- or as a run makes it that is asked
  lends : (c : ℕ) (made : Option ℕ) (left : ℕ) → Lendable cells h p c
      → Case cells h p (Act.GetMut c made left) (answer_made_to_lend (cell_at cells c).kind (tolerance_at cells c) (accepts h) made (replay cells c h))
  lends c made left u = by (asks_to_lend (cell_at cells c).kind (tolerance_at cells c) (phase_at cells c h)) made refl
    where
      by : (b : Bool) (m : Option ℕ) → AsksToLend cells h p c b
          → Case cells h p (Act.GetMut c m left) (if b && is_none m then Answer.Failed else answer_lent (cell_at cells c).kind (if b then content_of_run (cell_at cells c).kind (accepts h) m (replay cells c h) else replay cells c h))
      by true None e = Case.lent_failed c left u e
      by true (Some v) e =
          subst (λ b. Case cells h p (Act.GetMut c (Some v) left) (answer_at Shown b (content_of_run (cell_at cells c).kind (accepts h) (Some v) (replay cells c h))))
          (sym (made_accessible (cell_at cells c).kind (accepts h) (phase_at cells c h) u.lends)) (Case.lent_made c v left u e)
      by false m e = found (Act.GetMut c m left) c (Case.lent_rested c m left u e) (Case.lent_denied c m left u e)

  -- a step that is not refused
  pub allowed : (a : Act) (ws : List Wait) (chosen : Bool) → refusal cells h (step cells h p a) ≡ None → Case cells h p a (due_answer cells h (step cells h p a) ws chosen)
  allowed (Act.Call c j) ws chosen f =
      let r : _ = rests cells h p (Act.Call c j) (no_refusal _) f in
      attempted cells h p (Act.Call c j) c (Calls j) ws chosen (record { tried = refl; does = refl; acts = tt }) (mine_where_none cells h p c r.0)
  allowed (Act.Made v) ws chosen f =
      let t : _ = generates (innermost p (sections h)) refl (rests cells h p (Act.Made v) (no_refusal _) f).1 in rw t.2 (makes v t.0 t.1 t.3)
  allowed Act.MadeFailed ws chosen f =
      let t : _ = generates (innermost p (sections h)) refl (rests cells h p Act.MadeFailed (no_refusal _) f).1 in Case.failed t.0 t.1 t.3
  allowed (Act.Finished left) ws chosen f = ends true left (innermost p (sections h)) refl (rests cells h p (Act.Finished left) (no_refusal _) f).1
  allowed (Act.FinishFailed left) ws chosen f = ends false left (innermost p (sections h)) refl (rests cells h p (Act.FinishFailed left) (no_refusal _) f).1
  allowed (Act.Look g) ws chosen f =
      let x : _ = is_opened no_guard p (numbered g (guards h)) (no_refusal _) (rests cells h p (Act.Look g) (no_refusal _) f).1 in rw x.1 (Case.looked g x.0 x.1)
  allowed (Act.Set g v) ws chosen f =
      let x : _ = is_opened no_writer p (numbered g (guards h)) (no_refusal _) (rests cells h p (Act.Set g v) (no_refusal _) f).1 in
      Case.set g v x.0 x.1 (is_writer x.0.writes x.2)
  allowed (Act.Release g) ws chosen f =
      let x : _ = is_opened no_guard p (numbered g (guards h)) (no_refusal _) (rests cells h p (Act.Release g) (no_refusal _) f).1 in Case.released g x.0 x.1
  allowed (Act.Downgrade g) ws chosen f =
      let x : _ = is_opened no_writer p (numbered g (guards h)) (no_refusal _) (rests cells h p (Act.Downgrade g) (no_refusal _) f).1 in
      Case.downgraded g x.0 x.1 (is_writer x.0.writes x.2)
  allowed (Act.TryGetMut c left) ws chosen f = let u : _ = lendable_so cells h p c left f in found (Act.TryGetMut c left) c (Case.lent c left u) (Case.unlent c left u)
  allowed a ws chosen x = grind (arith, again, is_opened, no_refusal, rests, clones, is_reader, lends, lendable, exits)

-- what holds in each case of a step that is not refused, and of a refused step, holds of a legal line
pub of_legal : (cells : List CellPlan) (h : List Event) (s : Step) (l : Line) → IsLegalLine cells h s l → (P : Act → Answer → Type 0) → ((a : Act) (r : Refusal) → P a (Answer.Refused r))
    → ((a : Act) (r : Answer) → Case cells h s.party a r → refusal cells h (step cells h s.party a) ≡ None → P a r) → P s.act l.answer
of_legal cells h s l m P refused f = by (refusal cells h s) refl
  where
    ws : List Wait
    ws = waits_judged cells m.moment h s l.given

    due : (o : Option Refusal) → refusal cells h s ≡ o → l.answer ≡ answer_of o (due_answer cells h s ws m.chosen)
    due o e = m.answered ∙ ap (λ x. answer_of x (due_at cells m.moment h s l.given m.chosen)) e ∙ ap (answer_of o) (due_at-judged cells m.moment h s l.given m.chosen)

    by : (o : Option Refusal) → refusal cells h s ≡ o → P s.act l.answer
    by None e = subst (P s.act) (sym (due None e)) (f s.act _ (allowed cells h s.party s.act ws m.chosen e) e)
    by (Some r) e = subst (P s.act) (sym (due (Some r) e)) (refused s.act r)
