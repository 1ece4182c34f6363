-- How many pairs the map has: an Effect alone changes that.
use Rattle.std.proofs.Common.{◌≡◌, ◌≤◌, ℕ, ◌+◌, ◌-◌, cond, List, ◌∷◌, arith, refl, sym, ap, ◌∙◌, Option, Some, None}
use Rattle.std.specs.Prelude.{is_some}
use Rattle.std.specs.FinMap.{get, insert, len, len-insert, len-remove}
use Rattle.std.proofs.lemmas.Cmp.{nat_list_cmp_total}
use Rattle.bz_call.specs.Map.{Map, key_of, apply, apply_at}
use Rattle.bz_call.specs.declared.calls.Call.{Call}
use Rattle.bz_call.specs.declared.calls.Call.TheVariants as call
use Rattle.bz_call.specs.declared.replies.Reply.{Reply}
use Rattle.bz_call.specs.declared.replies.Reply.TheVariants.{Inserted, Deleted}
use Rattle.bz_layout.specs.declared.config.Config.{Config}
use Rattle.bz_mark.specs.declared.marks.Mark.{Mark}
use Rattle.bz_mark.specs.declared.marks.Mark.TheVariants.{Effect}
use Rattle.bz_sound.specs.Calls.{Open, open_call, map_with, map_after}
use Rattle.bz_sound.specs.Memory.Moments.{map_at_start}
use Rattle.bz_world.specs.Inside.Kept.{CountsPairs}
use Rattle.bz_world.specs.Inside.Serving.{size_after}

-- a mark that leaves the map leaves its size
pub pairs-stay : (c : Config) (start : List ℕ) (past : List Mark) (mark : Mark) (n : ℕ) → ((map : Map) → map_after map (mark ∷ past) ≡ map_after map past) → CountsPairs c start past n → CountsPairs c start (mark ∷ past) n
pairs-stay c start past mark n same k = record { size = k.size ∙ ap (λ (m : Map). len m) (sym (same (map_at_start c start))); few = omega (arith, k.few) }

-- a key that is absent is one pair more, and one that is there none
put-size : (map : Map) (key payload : List ℕ) (found : Option (List ℕ)) → get map key ≡ found → len (insert map key payload) ≡ cond (is_some found) (len map) (len map + 1)
put-size map key payload found is = len-insert nat_list_cmp_total map key payload ∙ ap (λ (z : Option (List ℕ)). cond (is_some z) (len map) (len map + 1)) is

-- so a call changes the size by what it is answered
size-by : (map : Map) (called : Call) (found : Option (List ℕ)) → get map (key_of called) ≡ found → len (apply_at found map called).map ≡ size_after (apply_at found map called).reply (len map)
size-by map (call.Insert key payload) None is = put-size map key payload None is
size-by map (call.Insert key payload) (Some had) is = refl
size-by map (call.Delete key) None is = refl
size-by map (call.Delete key) (Some had) is = len-remove nat_list_cmp_total map key ∙ ap (λ (z : Option (List ℕ)). cond (is_some z) (len map - 1) (len map)) is
size-by map (call.Update key payload) None is = refl
size-by map (call.Update key payload) (Some had) is = put-size map key payload (Some had) is
size-by map (call.Upsert key payload) None is = put-size map key payload None is
size-by map (call.Upsert key payload) (Some had) is = put-size map key payload (Some had) is
size-by map (call.Get key) None is = refl
size-by map (call.Get key) (Some had) is = refl
size-by map (call.Page key) None is = refl
size-by map (call.Page key) (Some had) is = refl

applied-size : (map : Map) (called : Call) (reply : Option Reply) → (apply map called).reply ≡ reply → len (apply map called).map ≡ size_after reply (len map)
applied-size map called reply is = size-by map called (get map (key_of called)) refl ∙ ap (λ (z : Option Reply). size_after z (len map)) is

-- by one at most
few-more : (reply : Option Reply) (n : ℕ) → size_after reply n ≤ n + 1
few-more (Some Inserted) n = omega arith
few-more (Some (Deleted had)) n = omega arith
few-more other n = omega arith

-- the Effect of a call that the map answers so
pub pairs-change : (c : Config) (start : List ℕ) (past : List Mark) (w n pairs : ℕ) (opened : Open) (reply : Option Reply) → open_call w past ≡ Some opened → (apply (map_after (map_at_start c start) past) opened.call).reply ≡ reply
    → CountsPairs c start past pairs → CountsPairs c start (Effect w n ∷ past) (size_after reply pairs)
pairs-change c start past w n pairs opened reply is-open is k = record {
  size = ap (size_after reply) k.size ∙ (sym (applied-size (map_after (map_at_start c start) past) opened.call reply is) ∙ ap (λ (o : Option Open). len (map_with o (map_after (map_at_start c start) past))) (sym is-open));
  few = omega (arith, few-more reply pairs, k.few);
}
