-- The exit alone moves.
use Rattle.phase_moves.proofs.Words.{◌≡◌, ◌∙◌, ℕ, List, [], ◌∷◌, ◌++◌, length, ap, refl, arith, Some, Option, Holders, Look, Turned, Registry, IsSound_of_registry as IsSound}
use Rattle.phase_moves.proofs.Words.{cells_of, first_of, look_at, looked, after_turn, LockerKind, Exit, Rows, Standing, owned, round_looked, turn_ended, Stands, IsExit}
use Rattle.phase_moves.proofs.Words.{IsTurn, Turn}

module _ {L : Type 0} (held : L → Holders) (place : L → LockerKind) (hand : ℕ) (m : Standing) (v : Rows L) (t : Stands held place hand m v) where
  -- where nothing else is touched, the rows stand for what is open as before
  pub exited : (r : Registry) (o : Option ℕ) (ts : List Turned) (x : Exit) → IsExit (length v.cells.items) (record m { registry = r; owner = o; turns = ts }) x → Stands held place hand (record m { registry = r; owner = o; turns = ts }) (record v { exit = x })
  exited r o ts x k = record { cell = t.cell; counted = t.counted; draft = t.draft; slot = t.slot; party = t.party; exit = k; waits = t.waits; guards = t.guards; sections = t.sections; sizes = t.sizes }

  pub owns : (p : ℕ) → Stands held place hand (owned p m) (record v { exit = record v.exit { owner = Some p } })
  owns p = exited m.registry (Some p) m.turns _ (record { registry_is = t.exit.registry_is; owner_is = refl; turns_are = t.exit.turns_are; cells_are = t.exit.cells_are })

  registered : (f : Registry → Registry) → ((r : Registry) → cells_of (f r) ≡ cells_of r) → (r : Registry) → r ≡ f v.exit.registry → Stands held place hand (record m { registry = f m.registry }) (record v { exit = record v.exit { registry = r } })
  registered f same r e = grind arith

  pub takes_turn : (o : Option ℕ) (r : Registry) → o ≡ first_of v.exit.registry.left → r ≡ after_turn v.exit.registry → IsSound v.exit.registry → IsTurn held place hand m v o (record v { exit = record v.exit { registry = r } })
  takes_turn o r first e sound = grind arith

  pub looks : (o : Look) (r : Registry) → o ≡ look_at v.exit.registry.pending → r ≡ looked v.exit.registry → (o ≡ look_at m.registry.pending) × Stands held place hand (round_looked m) (record v { exit = record v.exit { registry = r } })
  looks o r first e = (first ∙ ap (λ (r : Registry). look_at r.pending) t.exit.registry_is, registered looked (λ r. refl) r e)

  pub skips : (c : ℕ) (x : Exit) → x.registry ≡ v.exit.registry → x.owner ≡ v.exit.owner → x.turns.items ≡ v.exit.turns.items ++ record { cell = c; turn = Turn.Skipped } ∷ [] → Stands held place hand (turn_ended c Turn.Skipped m) (record v { exit = x })
  skips c x registry owner turns = grind arith
