-- What a call of `read` or `write` tells: POSIX.1-2024, read and write, "Return value" and "Errors"; std gives the error by its kind.
use Rattle.std.specs.Prelude.{Bool, true, false, ℕ, zero, suc, Option, Some, None, Result, Ok, Err}
use Rattle.std.specs.IoError.{error_kind}
use Rattle.std.specs.declared.io.Error.{Error}
use Rattle.std.specs.declared.io.ErrorKind.{ErrorKind}
use Rattle.std.specs.declared.io.ErrorKind.TheVariants.{Interrupted}
use Rattle.withhold.specs.declared.call.Again.{Again}

-- EINTR
abbrev pub isInterruption : ErrorKind → Bool
isInterruption Interrupted = true
isInterruption _ = false

-- so many bytes are moved, and the call is made again for the rest
abbrev pub again : ℕ → ℕ → Result (Option Again) Error
again count patience = Ok (Some (record { count = count; patience = patience }))

-- a call that did not succeed is made again where a signal interrupted it, as long as patience lasts
abbrev pub unsuccessful : Error → Bool → ℕ → Result (Option Again) Error
unsuccessful e true (suc patience) = again 0 patience
unsuccessful e true zero = Err e
unsuccessful e false patience = Err e

-- by the answer: above 0, so many bytes are moved; 0, none are left; an error, the call did not succeed
abbrev pub toldOf : Result ℕ Error → ℕ → Result (Option Again) Error
toldOf (Ok (suc n)) patience = again (suc n) patience
toldOf (Ok zero) patience = Ok None
toldOf (Err e) patience = unsuccessful e (isInterruption (error_kind e)) patience
