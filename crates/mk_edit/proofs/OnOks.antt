-- A fact where memory was there.
use Rattle.std.proofs.Common.{Result, Ok, Err, OnOk}
use Rattle.std.specs.declared.alloc.AllocError.{AllocError}

pub on_ok : (A B : Type 0) (r : Result (Unit {0}) AllocError) → OnOk r A → (A → B) → OnOk r B
on_ok A B (Ok u) h f = f h
on_ok A B (Err e) h f = tt
