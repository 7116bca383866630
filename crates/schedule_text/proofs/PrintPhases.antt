-- The texts of the phases that a lazy cell takes.
use Rattle.std.specs.Prelude.{ℕ, ◌≡◌, codes}
use Rattle.std.proofs.Common.{refl, ap, ◌∙◌}
use Rattle.phase_bits.specs.Text.{flag_text, lower_text, upper_text, phase_text}

-- the empty phase
empty_text : phase_text 0 ≡ codes "Phase (not initialized)"
unfolding phase_text
empty_text = refl

-- after a run that succeeded
initialized_text : phase_text 1 ≡ codes "Phase (Initialized)"
unfolding phase_text lower_text upper_text flag_text
initialized_text = refl

-- after a run that failed
failed_text : phase_text 6 ≡ codes "Phase (Initialization panicked | Initialization skiped)"
unfolding phase_text lower_text upper_text flag_text
failed_text = refl

-- after a run of a registered cell that succeeded
registered_text : phase_text 9 ≡ codes "Phase (Initialized | Registered)"
unfolding phase_text lower_text upper_text flag_text
registered_text = refl

-- after a run of a registered cell that failed
registered_failed_text : phase_text 14 ≡ codes "Phase (Initialization panicked | Initialization skiped | Registered)"
unfolding phase_text lower_text upper_text flag_text
registered_failed_text = refl

-- where registration was refused and no generator ran
unregistered_text : phase_text 36 ≡ codes "Phase (Initialization skiped | Registration refused)"
unfolding phase_text lower_text upper_text flag_text
unregistered_text = refl

-- after a finalizer that succeeded
finalized_text : phase_text 73 ≡ codes "Phase (Initialized | Registered | Finalized)"
unfolding phase_text lower_text upper_text flag_text
finalized_text = refl

-- the same of a number that is known to be one of these
pub phase_text_at_empty : (n : ℕ) → n ≡ 0 → phase_text n ≡ codes "Phase (not initialized)"
phase_text_at_empty n e = ap phase_text e ∙ empty_text

pub phase_text_at_initialized : (n : ℕ) → n ≡ 1 → phase_text n ≡ codes "Phase (Initialized)"
phase_text_at_initialized n e = ap phase_text e ∙ initialized_text

pub phase_text_at_failed : (n : ℕ) → n ≡ 6 → phase_text n ≡ codes "Phase (Initialization panicked | Initialization skiped)"
phase_text_at_failed n e = ap phase_text e ∙ failed_text

pub phase_text_at_registered : (n : ℕ) → n ≡ 9 → phase_text n ≡ codes "Phase (Initialized | Registered)"
phase_text_at_registered n e = ap phase_text e ∙ registered_text

pub phase_text_at_registered_failed : (n : ℕ) → n ≡ 14 → phase_text n ≡ codes "Phase (Initialization panicked | Initialization skiped | Registered)"
phase_text_at_registered_failed n e = ap phase_text e ∙ registered_failed_text

pub phase_text_at_unregistered : (n : ℕ) → n ≡ 36 → phase_text n ≡ codes "Phase (Initialization skiped | Registration refused)"
phase_text_at_unregistered n e = ap phase_text e ∙ unregistered_text

pub phase_text_at_finalized : (n : ℕ) → n ≡ 73 → phase_text n ≡ codes "Phase (Initialized | Registered | Finalized)"
phase_text_at_finalized n e = ap phase_text e ∙ finalized_text
