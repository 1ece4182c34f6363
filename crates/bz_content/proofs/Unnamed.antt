-- A slot of which no word is named stays as it is.
use Rattle.std.proofs.Common.{◌≡◌, ℕ, ◌+◌, if◌then◌else◌, Bool, false, arith, refl, ap, inl, inr}
use Rattle.std.specs.Prelude.{nat_lt}
use Rattle.std.proofs.lemmas.Bool.{cases_lt}
use Rattle.std.proofs.lemmas.Bool.Decides.{nat_tests}
use Rattle.bz_layout.specs.Addresses.{node_address}
use Rattle.bz_layout.specs.declared.config.Config.{Config}
use Rattle.bz_layout.specs.declared.sizes.TheConstants.{NODE_WORDS}
use Rattle.bz_content.specs.Changes.{SameBut, IsUnnamed, SameNode}
use Rattle.bz_content.specs.Image.{Image, node}
use Rattle.bz_content.specs.Laws.{UnnamedWordsStay}

raw-stays : (c : Config) (x y : Image) (named : ℕ → Bool) (k i : ℕ) → SameBut x y named → IsUnnamed c named k → node c y.raw k i ≡ node c x.raw k i
unfolding node
raw-stays c x y named k i s u = elim (cases_lt i NODE_WORDS) [
  | inl l ↦ ap (λ w. if nat_lt i NODE_WORDS then w else 0) (s.raw (node_address c k + i) (u i l))
  | inr g ↦ let past : nat_lt i NODE_WORDS ≡ false = grind (arith, nat_tests) in rw past refl
]

stays : (c : Config) (x y : Image) (named : ℕ → Bool) (k : ℕ) → SameBut x y named → IsUnnamed c named k → SameNode c x y k
stays c x y named k s u = record { words = λ i l. s.words (node_address c k + i) (u i l); stands = λ i past other. raw-stays c x y named k i s u }

pub unnamed : UnnamedWordsStay
unnamed = record { node = stays; root = λ x y named s p q. record { pointer = s.words 1 p; status = s.words 2 q } }
