-- The pairs of a map, and what a call makes of them.
use Rattle.std.specs.Prelude.{◌≡◌, ◌↔◌, cond, ℕ, Bool, true, false, List, ◌∷◌, Option, Some, None, is_some, option_map, IfNone}
use Rattle.std.proofs.Common.{refl, sym, ap, ◌∙◌, subst}
use Rattle.std.specs.Ordering.{nat_cmp, eq_by_cmp}
use Rattle.std.specs.Cmp.{eq_by_cmp_equiv}
use Rattle.std.specs.Cmp.Lexicographic.{slice_cmp, nat_list_cmp_total}
use Rattle.std.specs.BTreeMap.{is_at}
use Rattle.std.specs.FinMap.{get, insert, remove, get-insert, get-remove}
use Rattle.bz_call.specs.Map.{Map, apply, apply_at, key_of, IsChange}
use Rattle.bz_call.specs.declared.calls.Call.{Call}
use Rattle.bz_call.specs.declared.calls.Call.TheVariants.{Insert, Delete, Update, Upsert, Get, Page}
use Rattle.bz_mark.specs.declared.marks.Mark.{Mark}
use Rattle.bz_mark.specs.declared.marks.Mark.TheVariants.{Effect}
use Rattle.bz_mark.specs.declared.power.Power.{Power}
use Rattle.bz_sound.specs.Calls.{Open, open_call, map_with, map_after}
use Rattle.bz_check.specs.declared.table.OpenCall.{OpenCall}
use Rattle.bz_check.specs.Pairs.{payload_at, Holds, may_change}
use Rattle.bz_check.specs.Tables.{Known, open_in}
use Rattle.bz_check.specs.Knowing.{open_of, Knows, HasWorker, open_changes, effect_changes, map_by, map_then}
use Rattle.bz_check.proofs.Following.{false_true, none_some, Changes, TellsChange}

flips : (q key : List ℕ) → eq_by_cmp (slice_cmp nat_cmp) q key ≡ is_at (slice_cmp nat_cmp key) q
flips q key = (eq_by_cmp_equiv nat_list_cmp_total).symm q key

-- a list that has another payload at one key
pub holds_insert : (map : Map) (old new : List (List ℕ × List ℕ)) (key payload : List ℕ) → Holds map old → ((q : List ℕ) → payload_at new q ≡ cond (is_at (slice_cmp nat_cmp key) q) (Some payload) (payload_at old q))
    → Holds (insert map key payload) new
holds_insert map old new key payload h is = λ q.
    get-insert nat_list_cmp_total map key payload q ∙ ap (λ (b : Bool). cond b (Some payload) (get map q)) (flips q key)
    ∙ ap (λ (o : Option (List ℕ)). cond (is_at (slice_cmp nat_cmp key) q) (Some payload) o) (h q) ∙ sym (is q)

pub holds_remove : (map : Map) (old new : List (List ℕ × List ℕ)) (key : List ℕ) → Holds map old → ((q : List ℕ) → payload_at new q ≡ cond (is_at (slice_cmp nat_cmp key) q) None (payload_at old q)) → Holds (remove map key) new
holds_remove map old new key h is = λ q.
    get-remove nat_list_cmp_total map key q ∙ ap (λ (b : Bool). cond b None (get map q)) (flips q key)
    ∙ ap (λ (o : Option (List ℕ)). cond (is_at (slice_cmp nat_cmp key) q) None o) (h q) ∙ sym (is q)

-- what a call makes of a map where its key is there, or is not
found_of : (o : Option (List ℕ)) → is_some o ≡ true → (had : List ℕ) × (o ≡ Some had)
found_of None h = absurd (false_true h)
found_of (Some had) h = (had, refl)

none_of : (o : Option (List ℕ)) → is_some o ≡ false → o ≡ None
none_of None h = refl
none_of (Some had) h = absurd (false_true (sym h))

at_found : (found : Option (List ℕ)) (map : Map) (call : Call) → get map (key_of call) ≡ found → (apply map call).map ≡ (apply_at found map call).map
at_found found map call is = ap (λ (o : Option (List ℕ)). (apply_at o map call).map) is

pub insert_stays : (map : Map) (pairs : List (List ℕ × List ℕ)) (key payload : List ℕ) → Holds map pairs → is_some (payload_at pairs key) ≡ true → Holds (apply map (Insert key payload)).map pairs
insert_stays map pairs key payload h there =
    let found = found_of (payload_at pairs key) there in
    subst (λ (m : Map). Holds m pairs) (sym (at_found (Some found.0) map (Insert key payload) (h key ∙ found.1))) h

pub insert_adds : (map : Map) (old new : List (List ℕ × List ℕ)) (key payload : List ℕ) → Holds map old → is_some (payload_at old key) ≡ false → Holds (insert map key payload) new → Holds (apply map (Insert key payload)).map new
insert_adds map old new key payload h none put = subst (λ (m : Map). Holds m new) (sym (at_found None map (Insert key payload) (h key ∙ none_of (payload_at old key) none))) put

pub update_puts : (map : Map) (old new : List (List ℕ × List ℕ)) (key payload : List ℕ) → Holds map old → is_some (payload_at old key) ≡ true → Holds (insert map key payload) new → Holds (apply map (Update key payload)).map new
update_puts map old new key payload h there put =
    let found = found_of (payload_at old key) there in
    subst (λ (m : Map). Holds m new) (sym (at_found (Some found.0) map (Update key payload) (h key ∙ found.1))) put

pub update_stays : (map : Map) (pairs : List (List ℕ × List ℕ)) (key payload : List ℕ) → Holds map pairs → is_some (payload_at pairs key) ≡ false → Holds (apply map (Update key payload)).map pairs
update_stays map pairs key payload h none = subst (λ (m : Map). Holds m pairs) (sym (at_found None map (Update key payload) (h key ∙ none_of (payload_at pairs key) none))) h

upsert_is : (found : Option (List ℕ)) (map : Map) (key payload : List ℕ) → (apply_at found map (Upsert key payload)).map ≡ insert map key payload
upsert_is None map key payload = refl
upsert_is (Some had) map key payload = refl

pub upsert_puts : (map : Map) (new : List (List ℕ × List ℕ)) (key payload : List ℕ) → Holds (insert map key payload) new → Holds (apply map (Upsert key payload)).map new
upsert_puts map new key payload put = subst (λ (m : Map). Holds m new) (sym (upsert_is (get map key) map key payload)) put

get_is : (found : Option (List ℕ)) (map : Map) (key : List ℕ) → (apply_at found map (Get key)).map ≡ map
get_is None map key = refl
get_is (Some had) map key = refl

pub get_stays : (map : Map) (pairs : List (List ℕ × List ℕ)) (key : List ℕ) → Holds map pairs → Holds (apply map (Get key)).map pairs
get_stays map pairs key h = subst (λ (m : Map). Holds m pairs) (sym (get_is (get map key) map key)) h

page_is : (found : Option (List ℕ)) (map : Map) (key : List ℕ) → (apply_at found map (Page key)).map ≡ map
page_is None map key = refl
page_is (Some had) map key = refl

pub page_stays : (map : Map) (pairs : List (List ℕ × List ℕ)) (key : List ℕ) → Holds map pairs → Holds (apply map (Page key)).map pairs
page_stays map pairs key h = subst (λ (m : Map). Holds m pairs) (sym (page_is (get map key) map key)) h

-- what a removal leaves where the key is there, or is not
gone_none : (map : Map) (old new : List (List ℕ × List ℕ)) (key : List ℕ) → Holds map old → payload_at old key ≡ None → ((q : List ℕ) → payload_at new q ≡ payload_at old q) → Holds (apply map (Delete key)).map new
gone_none map old new key h none same = subst (λ (m : Map). Holds m new) (sym (at_found None map (Delete key) (h key ∙ none))) (λ q. h q ∙ sym (same q))

gone_some : (map : Map) (old new : List (List ℕ × List ℕ)) (key had : List ℕ) → Holds map old → payload_at old key ≡ Some had → ((q : List ℕ) → payload_at new q ≡ cond (is_at (slice_cmp nat_cmp key) q) None (payload_at old q)) → Holds (apply map (Delete key)).map new
gone_some map old new key had h is cut = subst (λ (m : Map). Holds m new) (sym (at_found (Some had) map (Delete key) (h key ∙ is))) (holds_remove map old new key h cut)

gone_by : (found : Option (List ℕ)) (map : Map) (old new : List (List ℕ × List ℕ)) (key : List ℕ) → payload_at old key ≡ found → Holds map old → ((q : List ℕ) → payload_at new q ≡ cond (is_at (slice_cmp nat_cmp key) q) None (payload_at old q))
    → (found ≡ None → new ≡ old) → Holds (apply map (Delete key)).map new
gone_by None map old new key is h cut same = gone_none map old new key h is (λ q. ap (λ (all : List (List ℕ × List ℕ)). payload_at all q) (same refl))
gone_by (Some had) map old new key is h cut same = gone_some map old new key had h is cut

pub delete_takes : (map : Map) (old new : List (List ℕ × List ℕ)) (key : List ℕ) → Holds map old → ((q : List ℕ) → payload_at new q ≡ cond (is_at (slice_cmp nat_cmp key) q) None (payload_at old q)) → (payload_at old key ≡ None → new ≡ old)
    → Holds (apply map (Delete key)).map new
delete_takes map old new key h cut same = gone_by (payload_at old key) map old new key refl h cut same

-- whether a call changes the map
changes_by : (found : Option (List ℕ)) (map : Map) (call : Call) → may_change found call ≡ true ↔ IsChange (apply_at found map call).reply
changes_by None map (Insert key payload) = (λ e. tt, λ h. refl)
changes_by (Some had) map (Insert key payload) = (λ e. absurd (false_true e), λ h. absurd h)
changes_by None map (Delete key) = (λ e. absurd (false_true e), λ h. absurd h)
changes_by (Some had) map (Delete key) = (λ e. tt, λ h. refl)
changes_by None map (Update key payload) = (λ e. absurd (false_true e), λ h. absurd h)
changes_by (Some had) map (Update key payload) = (λ e. tt, λ h. refl)
changes_by None map (Upsert key payload) = (λ e. tt, λ h. refl)
changes_by (Some had) map (Upsert key payload) = (λ e. tt, λ h. refl)
changes_by None map (Get key) = (λ e. absurd (false_true e), λ h. absurd h)
changes_by (Some had) map (Get key) = (λ e. absurd (false_true e), λ h. absurd h)
changes_by None map (Page key) = (λ e. absurd (false_true e), λ h. absurd h)
changes_by (Some had) map (Page key) = (λ e. absurd (false_true e), λ h. absurd h)

open_tells : (o : Option OpenCall) (map : Map) (pairs : List (List ℕ × List ℕ)) → Holds map pairs → Changes (open_changes pairs o) map o
open_tells None map pairs h = tt
open_tells (Some call) map pairs h =
    subst (λ (found : Option (List ℕ)). may_change found call.call ≡ true ↔ IsChange (apply map call.call).reply) (h (key_of call.call)) (changes_by (get map (key_of call.call)) map call.call)

pub tells_change : (t : Known) (map : Map) (pairs : List (List ℕ × List ℕ)) (mark : Mark) → Holds map pairs → TellsChange t (effect_changes t pairs mark) map mark
tells_change t map pairs (Effect w n) h = open_tells (open_in t w) map pairs h
tells_change t map pairs mark h = tt

-- the map after an Effect is that of the table's open call
same_step : (o : Option OpenCall) (opened : Option Open) (map : Map) → option_map open_of o ≡ opened → map_by o map ≡ map_with opened map
same_step None opened map e = ap (λ (o : Option Open). map_with o map) e
same_step (Some call) opened map e = ap (λ (o : Option Open). map_with o map) e

pub map_more : (at_start : Power) (past : List Mark) (t : Known) (mark : Mark) (map : Map) → Knows at_start past t → HasWorker mark → map_then t mark (map_after map past) ≡ map_after map (mark ∷ past)
map_more at_start past t (Effect w n) map k has = same_step (open_in t w) (open_call w past) (map_after map past) (k.is_open w has)
map_more at_start past t mark map k has = refl

-- where nothing was removed, nothing has changed
pub unchanged_of : (result found : Option (List ℕ)) (old new : List (List ℕ × List ℕ)) → result ≡ found → IfNone result (new ≡ old) → found ≡ None → new ≡ old
unchanged_of None found old new e h none = h
unchanged_of (Some had) found old new e h none = absurd (none_some had (sym (e ∙ none)))
