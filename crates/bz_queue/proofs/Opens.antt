-- A worker's place tells whether its call is open, whatever the power is.
use Rattle.std.proofs.Common.{◌≡◌, ◌≤◌, ℕ, length, get_or, refl, ap, ◌∙◌, Option, Some, None}
use Rattle.std.specs.Prelude.{option_map}
use Rattle.std.proofs.Math.ListN.{get_or-eq_default}
use Rattle.bz_mark.specs.declared.power.Power.{Power}
use Rattle.bz_mark.specs.declared.power.Power.TheVariants as power
use Rattle.bz_ring.specs.Calls.{Open, begun_calls, open_call}
use Rattle.bz_queue.proofs.Powered.{awake-in, off-in, started-in}
use Rattle.bz_queue.specs.Inside.Kept.{IsKept, view_of}
use Rattle.bz_queue.specs.Inside.Serving.{IsSlot}
use Rattle.bz_queue.specs.QueueView.{open_number}
use Rattle.bz_queue.specs.declared.parts.Parts.{Parts}
use Rattle.bz_queue.specs.declared.serving.OpenCall.{OpenCall}

-- the number of the call at a place
abbrev pub number_at : Parts → ℕ → Option OpenCall → Option ℕ
number_at p w None = None
number_at p w (Some x) = Some (begun_calls w p.journal.past)

slot-number : (p : Parts) (w : ℕ) (slot : Option OpenCall) → IsSlot p.numbers.ring p.access p.journal.past p.owners.items p.numbers.workers w slot → open_number (view_of p) w ≡ number_at p w slot
slot-number p w None h = ap (option_map (λ (opened : Open). opened.number)) h.none
slot-number p w (Some x) h = ap (option_map (λ (opened : Open). opened.number)) h.opened.is_open

dark-number : (p : Parts) (w : ℕ) (slot : Option OpenCall) → slot ≡ None → open_call w p.journal.past ≡ None → open_number (view_of p) w ≡ number_at p w slot
dark-number p w None e none = ap (option_map (λ (opened : Open). opened.number)) none
dark-number p w (Some x) e none = absurd (cc e)

pub number-is : (p : Parts) → IsKept p → (w : ℕ) → open_number (view_of p) w ≡ number_at p w (get_or p.workers.items w None)
number-is p k w = go p.power refl
  where
    go : (z : Power) → p.power ≡ z → open_number (view_of p) w ≡ number_at p w (get_or p.workers.items w None)
    go power.On e = slot-number p w (get_or p.workers.items w None) ((awake-in p k e).slots w)
    go power.Off e = let off = off-in p k e in dark-number p w (get_or p.workers.items w None) (off.dark.none w) (off.dark.calls w)
    go power.Recovering e = let started = started-in p k e in dark-number p w (get_or p.workers.items w None) (started.dark.none w) (started.dark.calls w)

-- past the last place there is none
pub number-past : (p : Parts) → IsKept p → (w : ℕ) → length p.workers.items ≤ w → open_number (view_of p) w ≡ None
number-past p k w past = number-is p k w ∙ ap (number_at p w) (get_or-eq_default p.workers.items None past)
