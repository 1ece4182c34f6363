-- The calls of the words that begin them.
use Rattle.std.specs.Prelude.{ℕ, List}
use Rattle.bz_call.specs.declared.calls.Call.{Call}
use Rattle.bz_call.specs.declared.calls.Call.TheVariants as call
use Rattle.bz_script.specs.declared.forms.Put.{Put}
use Rattle.bz_script.specs.declared.forms.Put.TheVariants as put
use Rattle.bz_script.specs.declared.forms.Ask.{Ask}
use Rattle.bz_script.specs.declared.forms.Ask.TheVariants as ask

-- a call that puts a payload at a key
abbrev pub call_putting : Put → List ℕ → List ℕ → Call
call_putting put.Insert = call.Insert
call_putting put.Update = call.Update
call_putting put.Upsert = call.Upsert

-- a call that puts none
abbrev pub call_asking : Ask → List ℕ → Call
call_asking ask.Delete = call.Delete
call_asking ask.Get = call.Get
call_asking ask.Page = call.Page
