-- The tests of answers decide what a map answers, and whether it stays as it is.
use Rattle.std.specs.Prelude.{◌≡◌, if◌then◌else◌, ℕ, Bool, true, false, List, Option, Some, None, bytes_eq}
use Rattle.std.proofs.Common.{refl, sym, ap, ◌∙◌, subst}
use Rattle.std.proofs.lemmas.Slice.Eq.{bytes_eq-Decides}
use Rattle.std.specs.Cmp.Lexicographic.{nat_list_cmp_total}
use Rattle.std.specs.FinMap.{get, insert, remove, same_map, slice_cmp-IsAntisymmetric, nat_cmp-IsAntisymmetric}
use Rattle.bz_call.specs.Map.{Map, apply_at, key_of}
use Rattle.bz_call.specs.declared.calls.Call.{Call}
use Rattle.bz_call.specs.declared.calls.Call.TheVariants as call
use Rattle.bz_call.specs.declared.replies.Reply.{Reply}
use Rattle.bz_call.specs.declared.replies.Reply.TheVariants as reply
use Rattle.bz_sound.proofs.Memory.Changed.{with-inserted, with-removed}
use Rattle.bz_check.specs.Answers.{same_reply, answers_so, stays_in}
use Rattle.bz_check.proofs.Following.{false_true, none_some, some_same}

same_bytes : (a b : List ℕ) → bytes_eq a b ≡ true → a ≡ b
same_bytes a b h = (bytes_eq-Decides a b).0 h

bytes_test : (a b : List ℕ) → a ≡ b → bytes_eq a b ≡ true
bytes_test a b e = (bytes_eq-Decides a b).1 e

-- replies that are the same
told_of : (one other : Reply) → same_reply one other ≡ true → one ≡ other
told_of reply.Inserted reply.Inserted h = refl
told_of reply.Inserted other h = absurd (false_true h)
told_of reply.Exists reply.Exists h = refl
told_of reply.Exists other h = absurd (false_true h)
told_of (reply.Deleted had) (reply.Deleted told) h = ap (λ (p : List ℕ). reply.Deleted p) (same_bytes had told h)
told_of (reply.Deleted had) other h = absurd (false_true h)
told_of (reply.Updated had) (reply.Updated told) h = ap (λ (p : List ℕ). reply.Updated p) (same_bytes had told h)
told_of (reply.Updated had) other h = absurd (false_true h)
told_of reply.Missing reply.Missing h = refl
told_of reply.Missing other h = absurd (false_true h)
told_of (reply.Value had) (reply.Value told) h = ap (λ (p : List ℕ). reply.Value p) (same_bytes had told h)
told_of (reply.Value had) other h = absurd (false_true h)
told_of (reply.Page page next) other h = absurd (false_true h)
told_of (reply.Full spent) other h = absurd (false_true h)

some_of : (one other : Reply) → same_reply one other ≡ true → Some one ≡ Some other
some_of one other h = ap (λ (r : Reply). Some r) (told_of one other h)

some_test : (one other : Reply) → Some one ≡ Some other → same_reply one one ≡ true → same_reply one other ≡ true
some_test one other e h = subst (λ (r : Reply). same_reply one r ≡ true) (some_same one other e) h

-- what the map answers
pub answer_of : (found : Option (List ℕ)) (map : Map) (asked : Call) (told : Reply) → answers_so found asked told ≡ true → (apply_at found map asked).reply ≡ Some told
answer_of None map (call.Insert key payload) told h = some_of reply.Inserted told h
answer_of (Some had) map (call.Insert key payload) told h = some_of reply.Exists told h
answer_of None map (call.Delete key) told h = some_of reply.Missing told h
answer_of (Some had) map (call.Delete key) told h = some_of (reply.Deleted had) told h
answer_of None map (call.Update key payload) told h = some_of reply.Missing told h
answer_of (Some had) map (call.Update key payload) told h = some_of (reply.Updated had) told h
answer_of None map (call.Upsert key payload) told h = some_of reply.Inserted told h
answer_of (Some had) map (call.Upsert key payload) told h = some_of (reply.Updated had) told h
answer_of None map (call.Get key) told h = some_of reply.Missing told h
answer_of (Some had) map (call.Get key) told h = some_of (reply.Value had) told h
answer_of None map (call.Page key) told h = absurd (false_true h)
answer_of (Some had) map (call.Page key) told h = absurd (false_true h)

pub answer_test : (found : Option (List ℕ)) (map : Map) (asked : Call) (told : Reply) → (apply_at found map asked).reply ≡ Some told → answers_so found asked told ≡ true
answer_test None map (call.Insert key payload) told e = some_test reply.Inserted told e refl
answer_test (Some had) map (call.Insert key payload) told e = some_test reply.Exists told e refl
answer_test None map (call.Delete key) told e = some_test reply.Missing told e refl
answer_test (Some had) map (call.Delete key) told e = some_test (reply.Deleted had) told e (bytes_test had had refl)
answer_test None map (call.Update key payload) told e = some_test reply.Missing told e refl
answer_test (Some had) map (call.Update key payload) told e = some_test (reply.Updated had) told e (bytes_test had had refl)
answer_test None map (call.Upsert key payload) told e = some_test reply.Inserted told e refl
answer_test (Some had) map (call.Upsert key payload) told e = some_test (reply.Updated had) told e (bytes_test had had refl)
answer_test None map (call.Get key) told e = some_test reply.Missing told e refl
answer_test (Some had) map (call.Get key) told e = some_test (reply.Value had) told e (bytes_test had had refl)
answer_test None map (call.Page key) told e = absurd (none_some told e)
answer_test (Some had) map (call.Page key) told e = absurd (none_some told e)

-- a map with a payload at a key, and one without
put_there : (map : Map) (key payload : List ℕ) → get (insert map key payload) key ≡ Some payload
put_there map key payload = (with-inserted map key payload (Some payload) refl).gets key ∙ ap (λ (b : Bool). if b then Some payload else get map key) (bytes_test key key refl)

gone_there : (map : Map) (key : List ℕ) → get (remove map key) key ≡ None
gone_there map key = (with-removed map key None refl).gets key ∙ ap (λ (b : Bool). if b then None else get map key) (bytes_test key key refl)

put_same : (map : Map) (key payload : List ℕ) → get map key ≡ Some payload → insert map key payload ≡ map
put_same map key payload is = same_map nat_list_cmp_total (slice_cmp-IsAntisymmetric nat_cmp-IsAntisymmetric) (insert map key payload) map
    (λ q. (with-inserted map key payload (Some payload) refl).gets q ∙ go q (bytes_eq q key) refl)
  where
    go : (q : List ℕ) (b : Bool) → bytes_eq q key ≡ b → (if b then Some payload else get map q) ≡ get map q
    go q true e = sym (ap (λ (k : List ℕ). get map k) (same_bytes q key e) ∙ is)
    go q false e = refl

-- an insert into a map without the key, and a payload that is put over another one, change the map
put_new : (map : Map) (key payload : List ℕ) → get map key ≡ None → insert map key payload ≡ map → ⊥
put_new map key payload is e = none_some payload (sym is ∙ sym (ap (λ (m : Map). get m key) e) ∙ put_there map key payload)

put_over : (map : Map) (key had payload : List ℕ) → get map key ≡ Some had → insert map key payload ≡ map → bytes_eq had payload ≡ true
put_over map key had payload is e = bytes_test had payload (some_same had payload (sym is ∙ sym (ap (λ (m : Map). get m key) e) ∙ put_there map key payload))

put_again : (map : Map) (key had payload : List ℕ) → get map key ≡ Some had → bytes_eq had payload ≡ true → insert map key payload ≡ map
put_again map key had payload is h = put_same map key payload (is ∙ ap (λ (p : List ℕ). Some p) (same_bytes had payload h))

took_out : (map : Map) (key had : List ℕ) → get map key ≡ Some had → remove map key ≡ map → ⊥
took_out map key had is e = none_some had (sym (gone_there map key) ∙ ap (λ (m : Map). get m key) e ∙ is)

-- whether the map stays as it is
pub stays_of : (found : Option (List ℕ)) (map : Map) (asked : Call) → get map (key_of asked) ≡ found → stays_in found asked ≡ true → (apply_at found map asked).map ≡ map
stays_of None map (call.Insert key payload) is h = absurd (false_true h)
stays_of (Some had) map (call.Insert key payload) is h = refl
stays_of None map (call.Delete key) is h = refl
stays_of (Some had) map (call.Delete key) is h = absurd (false_true h)
stays_of None map (call.Update key payload) is h = refl
stays_of (Some had) map (call.Update key payload) is h = put_again map key had payload is h
stays_of None map (call.Upsert key payload) is h = absurd (false_true h)
stays_of (Some had) map (call.Upsert key payload) is h = put_again map key had payload is h
stays_of None map (call.Get key) is h = refl
stays_of (Some had) map (call.Get key) is h = refl
stays_of None map (call.Page key) is h = refl
stays_of (Some had) map (call.Page key) is h = refl

pub stays_test : (found : Option (List ℕ)) (map : Map) (asked : Call) → get map (key_of asked) ≡ found → (apply_at found map asked).map ≡ map → stays_in found asked ≡ true
stays_test None map (call.Insert key payload) is e = absurd (put_new map key payload is e)
stays_test (Some had) map (call.Insert key payload) is e = refl
stays_test None map (call.Delete key) is e = refl
stays_test (Some had) map (call.Delete key) is e = absurd (took_out map key had is e)
stays_test None map (call.Update key payload) is e = refl
stays_test (Some had) map (call.Update key payload) is e = put_over map key had payload is e
stays_test None map (call.Upsert key payload) is e = absurd (put_new map key payload is e)
stays_test (Some had) map (call.Upsert key payload) is e = put_over map key had payload is e
stays_test None map (call.Get key) is e = refl
stays_test (Some had) map (call.Get key) is e = refl
stays_test None map (call.Page key) is e = refl
stays_test (Some had) map (call.Page key) is e = refl
