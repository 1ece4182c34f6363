-- The two halves as they are made of slices of the records.
use Rattle.std.proofs.Common.{◌≡◌, ℕ, ◌-◌, ◌≤◌, List, length, take, drop, get_or, sym, ap, subst, ◌∙◌, Option}
use Rattle.std.specs.Prelude.{Some}
use Rattle.std.proofs.lemmas.List.{take_rest}
use Rattle.bz_layout.specs.declared.thresholds.TheConstants.{SPLIT_ABOVE}
use Rattle.bz_node.specs.Records.{leaf_words, IsLeafList}
use Rattle.bz_node.proofs.Orders.{get_or-keys_of}
use Rattle.bz_halves.specs.Halves.{record_words, separator_of, left_words, right_words}
use Rattle.bz_halves.specs.Laws.{AreLeafHalves}

module _ (rs : List (List ℕ × List ℕ)) (low high : Option (List ℕ)) (cut : ℕ) (d : List ℕ × List ℕ) (h : AreLeafHalves rs low high cut) where
  -- the key at the cut is the separator
  pub separator-read : (get_or rs cut d).0 ≡ separator_of rs cut
  separator-read = sym (get_or-keys_of rs cut d h.more)

  abbrev rest : List (List ℕ × List ℕ)
  rest = take (length rs - cut) (drop cut rs)

  pub left-list : IsLeafList (take cut rs) low (Some (get_or rs cut d).0)
  left-list = subst (λ z. IsLeafList (take cut rs) low (Some z)) (sym separator-read) h.left

  pub right-list : IsLeafList rest (Some (get_or rs cut d).0) high
  right-list = subst (λ z. IsLeafList z (Some (get_or rs cut d).0) high) (sym (take_rest rs cut)) (subst (λ z. IsLeafList (drop cut rs) (Some z) high) (sym separator-read) h.right)

  pub rest-room : record_words rest ≤ SPLIT_ABOVE
  rest-room = subst (λ z. record_words z ≤ SPLIT_ABOVE) (sym (take_rest rs cut)) h.right_room

  pub left-is : (image : List ℕ) → image ≡ leaf_words (take cut rs) low (Some (get_or rs cut d).0) → image ≡ left_words rs low cut
  left-is image is = is ∙ ap (λ z. leaf_words (take cut rs) low (Some z)) separator-read

  pub right-is : (image : List ℕ) → image ≡ leaf_words rest (Some (get_or rs cut d).0) high → image ≡ right_words rs high cut
  right-is image is = is ∙ (ap (λ z. leaf_words z (Some (get_or rs cut d).0) high) (take_rest rs cut) ∙ ap (λ z. leaf_words (drop cut rs) (Some z) high) separator-read)
