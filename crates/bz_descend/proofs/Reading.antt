-- What a descent learns from the words of a node that it arrives at.
use Rattle.std.proofs.Common.{◌≡◌, ℕ, ◌+◌, ◌<◌, ◌≤◌, true, false, List, length, take, arith, refl, sym, ap, subst, ◌∙◌, Option}
use Rattle.std.specs.Prelude.{Some, None, IsSome, slice_index}
use Rattle.std.proofs.lemmas.List.{ext_get_or, get_or-take, length-take}
use Rattle.std.proofs.lemmas.List.FromFn.{length-map-range_with_len, get_or-map-range_with_len}
use Rattle.bz_key.specs.Packing.{packed, unpacked, unpacked_key}
use Rattle.bz_key.proofs.PackingLaws.{unpacked-packed}
use Rattle.bz_key.proofs.UnpackingLaws.{unpacked_key-sound}
use Rattle.bz_layout.specs.Addresses.{node_address}
use Rattle.bz_layout.specs.declared.sizes.TheConstants.{STATUS_AT, HEADER_AT}
use Rattle.bz_slotted.specs.Page.{words_at}
use Rattle.bz_word.specs.Headers.{header}
use Rattle.bz_word.specs.Statuses.{status}
use Rattle.bz_task.specs.Instant.{page_at}
use Rattle.bz_task.specs.Outcomes.{IsPath}
use Rattle.bz_task.specs.Requests.{Answers}
use Rattle.bz_task.specs.Scene.{Scene, IsScene, here}
use Rattle.bz_task.specs.declared.path.Path.{Path}
use Rattle.bz_descend.specs.Inners.{Opened}
use Rattle.bz_descend.specs.Ways.{AreThawed, Arrives, ArrivesAtInner}
use Rattle.bz_descend.proofs.Leading.{word-of, front-later, level-later, inner-later}

module _ (key : List ℕ) (path : Path) (s : Scene) (good : IsScene s) where
  -- the header that is read is that of the moment at which the node was met
  pub header-was : (k v : ℕ) (a : Arrives key path k s.past) → Answers s (node_address s.past.config k + HEADER_AT) v → (page_at s.past.config (s.past.at a.met) k).level ≡ (header v).level
  header-was k v a t =
      sym (level-later key path s good k s.past.now a a.until (omega arith)) ∙ ap (λ z. (header z).level) (sym (word-of s.past.config (here s) k HEADER_AT (omega arith)) ∙ t.value)

  -- a way to a leaf is a path
  pub leaf-met : (k : ℕ) (a : Arrives key path k s.past) → (page_at s.past.config (s.past.at a.met) k).level ≡ 0 → IsPath key path s.past × AreThawed path
  leaf-met k a leaf = (
    record {
      some = a.way.some;
      few = omega (arith, a.low);
      links = a.way.links;
      first = a.way.first;
      below = a.way.below;
      leaf = λ i link l e. let q : k ≡ link.slot = sym (a.way.last i link l e) in record {
        was = s.past.now;
        since = good.begun;
        now = omega arith;
        reached = subst (λ z. (here s).reached z ≡ true) q (front-later key path s good k s.past.now a a.until (omega arith)).reached;
        leaf = subst (λ z. (page_at s.past.config (here s) z).level ≡ 0) q (level-later key path s good k s.past.now a a.until (omega arith) ∙ leaf);
      };
    },
    a.way.thawed,
  )

  -- its status is read, and is not frozen
  abbrev pub opens : (k v : ℕ) (a : ArrivesAtInner key path k s.past) → Answers s (node_address s.past.config k + STATUS_AT) v → (status v).frozen ≡ false → Opened key path k v s.past
  opens k v a t thawed = record {
    at_inner = a;
    guarded = s.past.now;
    order = a.node.until;
    until = omega arith;
    value = sym (word-of s.past.config (here s) k STATUS_AT (omega arith)) ∙ t.value;
    thawed = thawed;
    inner = inner-later key path s good k s.past.now a a.node.until (omega arith);
  }

pub words-are : (n : ℕ → ℕ) (from count : ℕ) (ws : List ℕ) → count ≤ length ws → ((i : ℕ) → i < count → slice_index ws i ≡ n (from + i)) → take count ws ≡ words_at n from count
unfolding words_at
words-are n from count ws e h =
    let l : length (take count ws) ≡ count = omega (arith, length-take count ws, e) in
    ext_get_or 0 _ _ (l ∙ sym (length-map-range_with_len n from count)) (λ i d.
    let within : i < count = omega (arith, d, l) in
    get_or-take count ws i 0 within ∙ (h i within ∙ sym (get_or-map-range_with_len n from count i (from + i) 0 within refl)))

pub is-some : (len : ℕ) (ws : List ℕ) → IsSome (unpacked_key len ws) → unpacked_key len ws ≡ Some (unpacked len ws)
is-some len ws h = go (unpacked_key len ws) refl h
  where
    go : (o : Option (List ℕ)) → unpacked_key len ws ≡ o → IsSome o → unpacked_key len ws ≡ Some (unpacked len ws)
    go None e h = absurd (cc)
    go (Some k) e h = let u = unpacked_key-sound len ws k e in e ∙ ap Some (sym (ap (unpacked len) (sym u.2) ∙ (ap (λ z. unpacked z (packed k)) (sym u.1) ∙ unpacked-packed k u.0.each)))
