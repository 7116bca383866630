-- What a cell is left with, read off its row.
use Rattle.phase_bits.specs.declared.holders.Holders.{Holders}
use Rattle.phase_moves.specs.declared.rows.CellRow.{CellRow}
use Rattle.schedule_rules.specs.declared.transcript.Final.{Final}

-- the published phase and value of the cell
abbrev pub final_of_row : {L : Type 0} → (L → Holders) → CellRow L → Final
final_of_row held row = record { phase = (held row.seq.locker).phase; value = row.value }
