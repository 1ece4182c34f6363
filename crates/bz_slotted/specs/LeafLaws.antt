-- What swaps and private stores do to a leaf that breaks no rule: it breaks none, and which answers change.
use Rattle.std.specs.Prelude.{◌≡◌, ◌≢◌, ℕ, true, false, List, Option, Some, None}
use Rattle.bz_word.specs.declared.meta.Meta.{Meta}
use Rattle.bz_slotted.specs.Changes.{Rewrites, Reserves, Grows, Restamps, StoresBeside}
use Rattle.bz_slotted.specs.Page.{visible, extent_of, page}
use Rattle.bz_slotted.specs.Readers.{found_of}
use Rattle.bz_slotted.specs.Records.{key_in, payload_in, key_at}
use Rattle.bz_slotted.specs.Rules.{node_fault}

-- no rule is broken, and each key is answered as before
pub record AnswersAlike (nodes : ℕ) (s n m : ℕ → ℕ) (lo hi : Option (List ℕ)) : Type 0 where
  pub none : node_fault nodes s m 0 lo hi ≡ None
  pub same : (key : List ℕ) → found_of m key ≡ found_of n key

-- no rule is broken, and record j and the one that took its place alone are answered otherwise
pub record AnswersRewritten (nodes : ℕ) (s n m : ℕ → ℕ) (lo hi : Option (List ℕ)) (j : ℕ) (mt : Meta) : Type 0 where
  pub none : node_fault nodes s m 0 lo hi ≡ None
  pub other : (key : List ℕ) → (visible mt ≡ true → key_in n (extent_of mt) ≢ key) → (visible ((page n).meta j) ≡ true → key_at (page n) j ≢ key) → found_of m key ≡ found_of n key
  pub new : visible mt ≡ true → found_of m (key_in n (extent_of mt)) ≡ Some (payload_in n (extent_of mt))
  pub gone : visible ((page n).meta j) ≡ true → visible mt ≡ false → found_of m (key_at (page n) j) ≡ None

abbrev pub RewriteChangesOneKey : Type 0
RewriteChangesOneKey = (nodes : ℕ) (r s n m : ℕ → ℕ) (lo hi : Option (List ℕ)) (j : ℕ) (mt : Meta) → node_fault nodes r n 0 lo hi ≡ None → Rewrites r s n m lo hi j mt → AnswersRewritten nodes s n m lo hi j mt

abbrev pub ReservationIsQuiet : Type 0
ReservationIsQuiet = (nodes : ℕ) (r s n m : ℕ → ℕ) (lo hi : Option (List ℕ)) (mt : Meta) → node_fault nodes r n 0 lo hi ≡ None → Reserves r s n m mt → AnswersAlike nodes s n m lo hi

abbrev pub GrowthIsQuiet : Type 0
GrowthIsQuiet = (nodes : ℕ) (r s n m : ℕ → ℕ) (lo hi : Option (List ℕ)) (words : ℕ) → node_fault nodes r n 0 lo hi ≡ None → Grows r s n m words → AnswersAlike nodes s n m lo hi

abbrev pub FreezeIsQuiet : Type 0
FreezeIsQuiet = (nodes : ℕ) (r s n m : ℕ → ℕ) (lo hi : Option (List ℕ)) → node_fault nodes r n 0 lo hi ≡ None → Restamps r s n m → AnswersAlike nodes s n m lo hi

abbrev pub StoresAreQuiet : Type 0
StoresAreQuiet = (nodes : ℕ) (r s n m : ℕ → ℕ) (lo hi : Option (List ℕ)) → node_fault nodes r n 0 lo hi ≡ None → StoresBeside r s n m → AnswersAlike nodes s n m lo hi
