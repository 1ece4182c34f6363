-- Whether the workers' next acts are fences: the flags are copied worker by worker.
use Rattle.std.proofs.Common.{◌≡◌, ◌≤◌, ◌<◌, ℕ, ◌+◌, Bool, false, List, [], ◌∷◌, ◌++◌, length, take, sym, ap, ◌∙◌, arith}
use Rattle.std.specs.Prelude.{map}
use Rattle.std.proofs.Math.ListN.{get_or-map}
use Rattle.std.proofs.lemmas.List.{length-map, length-append, take_more, take_all}
use Rattle.bz_swap.specs.SwapMemory.{SwapMemory, Working, idle, worker_of}

abbrev pub flags_in : SwapMemory → List Bool
flags_in m = map (λ (v : Working). v.flush_next) m.workers

-- those of so many workers were copied
pub record Copied (m : SwapMemory) (w : ℕ) (flags : List Bool) : Type 0 where
  pub front : flags ≡ take w (flags_in m)
  pub size : length flags ≡ w

pub copied_none : (m : SwapMemory) (flags : List Bool) → flags ≡ [] → Copied m 0 flags
copied_none m flags none = record { front = none; size = ap length none }

pub copied_one : (m : SwapMemory) (w : ℕ) (flags more : List Bool) (flag : Bool) → w < length m.workers → flag ≡ (worker_of m w).flush_next → more ≡ flags ++ flag ∷ [] → Copied m w flags → Copied m (w + 1) more
copied_one m w flags more flag within told is c = record {
  front = is ∙ (ap (λ (front : List Bool). front ++ flag ∷ []) c.front ∙ (ap (λ (next : Bool). take w (flags_in m) ++ next ∷ []) (told ∙ sym (get_or-map (λ (v : Working). v.flush_next) m.workers w idle))
      ∙ sym (take_more (flags_in m) w false (omega (arith, within, length-map m.workers (λ (v : Working). v.flush_next))))));
  size = omega (arith, ap length is, length-append flags (flag ∷ []), c.size);
}

pub copied_all : (m : SwapMemory) (w : ℕ) (flags : List Bool) → length m.workers ≤ w → Copied m w flags → flags ≡ flags_in m
copied_all m w flags all c = c.front ∙ take_all w (flags_in m) (omega (arith, all, length-map m.workers (λ (v : Working). v.flush_next)))
