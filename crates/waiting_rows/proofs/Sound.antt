-- Rows that show who waits are sound.
use Rattle.waiting_rows.proofs.Words.{most_parties, ◌≡◌, ◌<◌, length, ◌∙◌, Bool, None, Some, refl, if◌then◌else◌, List, Option, Rows as Parking, IsSound, Wait, wait_of, Shows}
use Rattle.waiting_rows.proofs.Words.{IsSingle}
use Rattle.waiting_rows.proofs.{Counted.one_of, Members.occurs_readers, Members.occurs_writers, Reaching.passes, Reaching.row_reads, Reaching.row_writes}

one_passes : (t : Wait → Bool) (o : Option Wait) (b : Bool) → b ≡ passes t o → one_of t o ≡ (if b then 1 else 0)
one_passes t None b e = rw e refl
one_passes t (Some w) b e = rw e refl

-- rows that show who waits are sound
pub sound_of : (ws : List Wait) (s : Parking) → IsSingle ws → Shows ws s → length s.writers ≡ length s.readers → length s.rows < most_parties → IsSound s
sound_of ws s single shows sizes few =
    record {
      readers = λ c p lt. rw (shows.readers c, shows.row p) (occurs_readers c p ws single ∙ one_passes _ (wait_of p ws) _ (row_reads c (wait_of p ws)));
      writers = λ c p lt. rw (shows.writers c, shows.row p) (occurs_writers c p ws single ∙ one_passes _ (wait_of p ws) _ (row_writes c (wait_of p ws)));
      cells = sizes;
      few = few;
    }
