-- The tables over what leaves calls and numbers as they are.
use Rattle.std.proofs.Common.{◌≡◌, ◌≤◌, ◌+◌, ℕ, List, length, slice_index, sym, ap, subst, ◌∙◌, arith}
use Rattle.bz_ring.specs.Calls.{begun_calls, count_begins}
use Rattle.bz_ring.specs.Content.{size_of}
use Rattle.bz_ring.specs.Follows.{power_after}
use Rattle.bz_ring.specs.Fresh.{IsRing, fresh_words}
use Rattle.bz_queue.specs.Inside.Kept.{IsTabled}
use Rattle.bz_queue.specs.QueueView.{AreNumbers}
use Rattle.bz_queue.specs.declared.open.Numbers.{Numbers}
use Rattle.bz_queue.specs.declared.parts.Parts.{Parts}

pub record KeepsTables (old new : Parts) : Type 0 where
  pub numbers : new.numbers ≡ old.numbers
  pub start : new.journal.start ≡ old.journal.start
  pub most : new.journal.most ≡ old.journal.most
  pub places : length new.workers.items ≡ length old.workers.items
  pub last : new.last.items ≡ old.last.items
  pub owner_places : length new.owners.items ≡ length old.owners.items
  pub begun : new.begun ≡ old.begun
  pub count : length new.access.workers ≡ length old.access.workers
  pub swaps : new.access.swaps ≡ old.access.swaps
  pub size : length new.access.cached ≡ length old.access.cached
  pub calls : (w : ℕ) → begun_calls w new.journal.past ≡ begun_calls w old.journal.past
  pub begins : count_begins new.journal.past ≡ count_begins old.journal.past
  pub steps : new.access.steps ≤ length new.journal.past
  pub room : length new.journal.past ≤ old.journal.most
  pub power : power_after new.journal.past ≡ new.power

pub tabled-still : (old new : Parts) → IsTabled old → KeepsTables old new → IsTabled new
tabled-still old new h k = record {
  numbers = subst AreNumbers (sym k.numbers) h.numbers;
  start = k.start ∙ h.start ∙ ap (λ (n : Numbers). fresh_words n.ring) (sym k.numbers);
  most = k.most ∙ h.most ∙ ap (λ (n : Numbers). n.marks) (sym k.numbers);
  marks = omega (arith, k.room, h.most, ap (λ (n : Numbers). n.marks) k.numbers);
  places = k.places ∙ h.places;
  number_places = ap length k.last ∙ h.number_places;
  owner_places = k.owner_places ∙ h.owner_places ∙ ap (λ (n : Numbers). n.ring.swaps) (sym k.numbers);
  crew = k.count ∙ h.crew ∙ ap (λ (n : Numbers). n.workers + 1) (sym k.numbers);
  swaps = k.swaps ∙ h.swaps ∙ ap (λ (n : Numbers). n.ring.swaps) (sym k.numbers);
  size = k.size ∙ h.size ∙ ap (λ (n : Numbers). size_of n.ring) (sym k.numbers);
  counted = λ w within. ap (λ (all : List ℕ). slice_index all w) k.last ∙ h.counted w within ∙ sym (k.calls w);
  begins = k.begun ∙ h.begins ∙ sym k.begins;
  few = omega (arith, k.begun, h.few, ap (λ (n : Numbers). n.calls) k.numbers);
  steps = k.steps;
  powered = k.power;
}

pub ring-of : (n : Numbers) → AreNumbers n → IsRing n.ring
ring-of n are = record { some = are.capacity.at_least; few = are.capacity.at_most; one = are.swaps.at_least; numbered = are.swaps.at_most }
