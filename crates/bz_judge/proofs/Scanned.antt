-- Words of nodes in an image whose words are all lawful can be resolved.
use Rattle.std.proofs.Common.{◌≡◌, ℕ, ◌+◌, ◌<◌, ◌&&◌, Bool, true, false, List, arith, refl}
use Rattle.std.specs.Prelude.{slice_index}
use Rattle.std.proofs.lemmas.Bool.Decides.{nat_tests}
use Rattle.bz_content.specs.Lawful.{is_word, is_begun, is_named, is_in_descriptor, is_fixed, is_lawful}
use Rattle.bz_layout.specs.Addresses.{words_of, node_address, HoldsAll}
use Rattle.bz_layout.specs.declared.config.Config.{Config}
use Rattle.bz_layout.specs.declared.sizes.TheConstants.{NODE_WORDS, ROOT_AT, ROOT_STATUS_AT}
use Rattle.bz_layout.proofs.Laws.{addresses_fit}
use Rattle.bz_word.specs.Kinds.{kind}
use Rattle.bz_word.specs.declared.kind.WordKind.{WordKind}
use Rattle.bz_word.specs.declared.kind.WordKind.TheVariants.{Value, Dirty, Swap, Tag}
use Rattle.bz_judge.specs.Inside.Kinds.{CanBeResolved, HasFewEntries, IsReadableKind}
use Rattle.bz_judge.specs.Inside.Nodes.{IsScanned}

-- both parts of a conjunction
pub record Both (a b : Bool) : Type 0 where
  pub first : a ≡ true
  pub second : b ≡ true

pub both : (a b : Bool) → a && b ≡ true → Both a b
both true b h = record { first = refl; second = h }
both false b h = absurd (cc)

few : (c : Config) (raw : ℕ → ℕ) (s : ℕ) → is_begun c raw s ≡ true → HasFewEntries raw s
few c raw s t = grind (arith, nat_tests)

named-readable : (c : Config) (raw : ℕ → ℕ) (a : ℕ) (k : WordKind) → is_named c raw a k ≡ true → IsReadableKind raw k
named-readable c raw a (Value v) t = tt
named-readable c raw a (Dirty v) t = tt
named-readable c raw a (Swap s) t = few c raw s (both _ _ t).first
named-readable c raw a (Tag s e w q) t = tt

pub outside : (c : Config) (raw : ℕ → ℕ) (a : ℕ) → is_in_descriptor c a ≡ false → is_fixed a ≡ false → is_lawful c raw a ≡ true → CanBeResolved raw a
unfolding is_lawful
outside c raw a d f t =
    let b : Both (is_word (raw a)) (is_named c raw a (kind (raw a))) = both _ _ (rw (d, f) at t) in
    record { is_word = b.first; readable = named-readable c raw a (kind (raw a)) b.second }

pub node-readable : (c : Config) (image : List ℕ) (k i : ℕ) → IsScanned c image → k < c.nodes → i < NODE_WORDS → CanBeResolved (slice_index image) (node_address c k + i)
node-readable c image k i s slot place =
    let h : HoldsAll c = addresses_fit c s.config in
    let less : node_address c k + i < words_of c = h.node_words k i slot place in
    let d : is_in_descriptor c (node_address c k + i) ≡ false = past c k i in
    let f : is_fixed (node_address c k + i) ≡ false = late c k i in
    outside c (slice_index image) (node_address c k + i) d f (s.lawful (node_address c k + i) less)
  where
    past : (d : Config) (j n : ℕ) → is_in_descriptor d (node_address d j + n) ≡ false
    past d j n = grind (arith, nat_tests)

    late : (d : Config) (j n : ℕ) → is_fixed (node_address d j + n) ≡ false
    late d j n = grind (arith, nat_tests)

pub root-readable : (c : Config) (image : List ℕ) → IsScanned c image → CanBeResolved (slice_index image) ROOT_AT
root-readable c image s = outside c (slice_index image) ROOT_AT refl refl (s.lawful ROOT_AT (omega arith))

pub status-readable : (c : Config) (image : List ℕ) → IsScanned c image → CanBeResolved (slice_index image) ROOT_STATUS_AT
status-readable c image s = outside c (slice_index image) ROOT_STATUS_AT refl refl (s.lawful ROOT_STATUS_AT (omega arith))
