-- The new root and the joined node are made of the two in their order.
use Rattle.std.proofs.Common.{◌≡◌, ℕ, true, false, List, length, sym, subst}
use Rattle.bz_layout.specs.declared.sizes.TheConstants.{NODE_WORDS}
use Rattle.bz_join.specs.Parents.{IsJoinedOf}
use Rattle.bz_united.specs.Uniting.{IsUnitedOf}
use Rattle.bz_inner.specs.JoinFacts.{AreMadeOf}
use Rattle.bz_inner.specs.Joinings.{Joining, sep_of}
use Rattle.bz_inner.specs.Neighbours.{first_words, second_words}

module _ (r : Joining) (slot : ℕ) (root joined sep : List ℕ) where
  made-so : sep ≡ sep_of r.above r.place → IsJoinedOf r.above r.place slot root → length root ≡ NODE_WORDS → IsUnitedOf (first_words r.right r.own r.beside) (second_words r.right r.own r.beside) sep joined → length joined ≡ NODE_WORDS → AreMadeOf r slot root joined
  made-so is over size one one_size = record { over = over; size = size; one = subst (λ z. IsUnitedOf (first_words r.right r.own r.beside) (second_words r.right r.own r.beside) z joined) is one; one_size = one_size }

  pub made-right : r.right ≡ true → sep ≡ sep_of r.above r.place → IsJoinedOf r.above r.place slot root → length root ≡ NODE_WORDS → IsUnitedOf r.own r.beside sep joined → length joined ≡ NODE_WORDS → AreMadeOf r slot root joined
  made-right right is over size one one_size = made-so is over size (subst (λ z. IsUnitedOf (first_words z r.own r.beside) (second_words z r.own r.beside) sep joined) (sym right) one) one_size

  pub made-left : r.right ≡ false → sep ≡ sep_of r.above r.place → IsJoinedOf r.above r.place slot root → length root ≡ NODE_WORDS → IsUnitedOf r.beside r.own sep joined → length joined ≡ NODE_WORDS → AreMadeOf r slot root joined
  made-left left is over size one one_size = made-so is over size (subst (λ z. IsUnitedOf (first_words z r.own r.beside) (second_words z r.own r.beside) sep joined) (sym left) one) one_size
