-- Histories of steps and their lines. The latest event stands first.
use Rattle.std.specs.Prelude.{ℕ, Bool, true, false, not, List, [], ◌∷◌, ◌==◌, ◌+◌, length, nat_lt, if◌then◌else◌}
use Rattle.schedule_rules.specs.declared.step.Act.{Act}
use Rattle.schedule_rules.specs.declared.step.Act.TheVariants as act
use Rattle.schedule_rules.specs.declared.line.Answer.{Answer}
use Rattle.schedule_rules.specs.declared.line.Answer.TheVariants as answer
use Rattle.schedule_rules.specs.declared.step.Step.{Step}
use Rattle.schedule_rules.specs.declared.line.Line.{Line}
use Rattle.schedule_rules.specs.Deeds.{Deed, Looks, deed_by}

-- how many pass a test
abbrev pub count : {X : Type 0} → (X → Bool) → List X → ℕ
count p [] = 0
count p (x ∷ xs) = if p x then count p xs + 1 else count p xs

-- a step and its line
pub record Event : Type 0 where
  pub step : Step
  pub line : Line

-- the events before the step with this number
abbrev pub before : ℕ → List Event → List Event
before n [] = []
before n (e ∷ h) = if nat_lt (length h) n then e ∷ h else before n h

-- a party's own act replaces the older one, unless it is Again
abbrev pub newer_act : Bool → Act → Act → Act
newer_act false a older = older
newer_act true act.Again older = older
newer_act true a older = a

-- a refused step leaves what was asked
abbrev pub latest_act_after : Answer → Bool → Act → Act → Act
latest_act_after (answer.Refused r) is_own a older = older
latest_act_after _ is_own a older = newer_act is_own a older

-- what a party asked last: its latest step that was not refused, besides Again
abbrev pub latest_act : ℕ → List Event → Act
latest_act p [] = act.Again
latest_act p (e ∷ h) = latest_act_after e.line.answer (e.step.party == p) e.step.act (latest_act p h)

-- an Again stands for the latest act
abbrev pub act_by : Act → ℕ → List Event → Act
act_by act.Again p h = latest_act p h
act_by a p h = a

-- what a step does: an Again goes on with what its party asked last
abbrev pub act_of : List Event → Step → Act
act_of h s = act_by s.act s.party h

-- the act takes a step of the exit, or looks
abbrev pub is_exit : Act → Bool
is_exit act.Exit = true
is_exit _ = false

-- registration is closed by a look that finds no cell, and stays closed
abbrev pub closed_by : Deed → Bool → Bool
closed_by (Looks true) was = true
closed_by _ was = was

-- registration is closed
abbrev pub is_closed : List Event → Bool
is_closed [] = false
is_closed (e ∷ h) = closed_by (deed_by (not (is_closed h)) (is_exit e.step.act) (act_of h e.step) e.line.answer) (is_closed h)

-- a cell may still be registered
abbrev pub accepts : List Event → Bool
accepts h = not (is_closed h)

-- what an act of the party with this answer does
abbrev pub deed_at : List Event → ℕ → Act → Answer → Deed
deed_at h p a r = deed_by (accepts h) (is_exit a) (act_by a p h) r

-- what a step with this answer does
abbrev pub deed_of : List Event → Step → Answer → Deed
deed_of h s r = deed_at h s.party s.act r
