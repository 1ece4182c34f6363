-- Words that are all zero have a meaning.
use Rattle.std.specs.Prelude.{◌≡◌, ℕ, ◌/◌, [], false, replicate, get_or, slice_index, Some, None}
use Rattle.std.specs.declared.option.Option.{Option}
use Rattle.std.proofs.Common.{arith, refl, ap, sym, subst, ◌∙◌, inl, inr}
use Rattle.std.proofs.lemmas.Bool.{cases_lt}
use Rattle.std.proofs.lemmas.List.{get_or-replicate, get_or_past, length-replicate}
use Rattle.std.specs.Result.{IfOk}
use Rattle.std.specs.declared.result.Result.{Result}
use Rattle.std.specs.declared.result.Result.TheVariants.{Ok, Err}
use Rattle.bz_word.proofs.Lemmas.{kinds}
use Rattle.bz_word.specs.declared.kind.WordKind.TheVariants.{Value}
use Rattle.bz_layout.specs.Addresses.{swap_address}
use Rattle.bz_oom.specs.declared.Memory.{Memory}
use Rattle.bz_swap_cells.specs.Store.{Store, AreWords, HasRoom, IsStatusWord, IsStore, status_of}
use Rattle.bz_pm.specs.State.{ask_for}
use Rattle.bz_pm.specs.declared.asks.Ask.{Ask}
use Rattle.bz_swap.proofs.Fresh.{all-same}

zero-at : (n i : ℕ) → slice_index (replicate n 0) i ≡ 0
zero-at n i = elim (cases_lt i n) [
  | inl lt ↦ get_or-replicate n i 0 0 lt
  | inr ge ↦ get_or_past (replicate n 0) i 0 (rw length-replicate ge)
]

zero-status : IsStatusWord 0
unfolding status_of
zero-status = refl

zero_words : (swaps n : ℕ) → AreWords swaps (replicate n 0)
zero_words swaps n = record {
  kinds = λ a out. rw (zero-at n a) (kinds.lawful (Value 0) (omega arith));
  statuses = λ s lt. rw (zero-at n (swap_address s)) zero-status;
}

none-asked : (workers w line : ℕ) (q : Ask) → ask_for (get_or (replicate workers []) w []) line ≡ Some q → ⊥
none-asked workers w line q is = (let none : ◌≡◌ {A = Option Ask} None (Some q) = ap (λ qs. ask_for qs line) (sym (all-same workers w [])) ∙ is in absurd cc)

-- a memory of such words, for which nobody has asked
abbrev pub zeros_in : ℕ → ℕ → ℕ → Store
zeros_in swaps n workers = record {
  cached = replicate n 0;
  durable = replicate n 0;
  past = record { count = 0; since = replicate n 0; asks = replicate workers [] };
  swaps = swaps;
  next_tags = replicate workers 0;
  missed = replicate swaps false;
  taken = 0;
}

pub zero_store : (swaps n workers : ℕ) → HasRoom (zeros_in swaps n workers) → IsStore (zeros_in swaps n workers)
zero_store swaps n workers room = record {
  has_room = room;
  cached = zero_words swaps n;
  durable = zero_words swaps n;
  asked = record {
    kinds = λ a w q out is. absurd (none-asked workers w (a / 8) q is);
    statuses = λ s w q lt is. absurd (none-asked workers w (swap_address s / 8) q is);
  };
}

-- the store that was opened is one
pub opened_store : (opened : Result Store Memory) (st : Store) → IfOk opened (λ c. c ≡ st) → IfOk opened HasRoom → (HasRoom st → IsStore st) → IfOk opened IsStore
opened_store (Ok c) st is room store = subst IsStore (sym is) (store (subst HasRoom is room))
opened_store (Err e) st is room store = tt

-- what holds of a store holds of the one that was opened
pub if_opened : (P : Store → Type 0) (opened : Result Store Memory) (st : Store) → IfOk opened (λ c. c ≡ st) → P st → IfOk opened P
if_opened P (Ok c) st is holds = rw is holds
if_opened P (Err e) st is holds = tt
