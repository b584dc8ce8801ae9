-- What a handle that C holds owns. Assumes nothing: these are definitions.
use Rattle.std.specs.Prelude.{Bool, true, false, Option, Some, None}
use base.Fml.{Fml, ftrue, ffalse}
use denote.RattleType.{RattleType}
use denote.RawPtr.{Ptr}
use Rattle.std.specs.Box.Ownership.{box_owns}
use Rattle.std.specs.declared.alloc.Global.{Global}
use Rattle.std.specs.contracts.impls.GlobalAllocator.TheImpl.{ghosts}

-- the one allocator, that of the C library
abbrev pub heap : Global
heap = record { memory = record { seal = tt } }

-- what the pointer of a box owns: the value, and the right to free its block
abbrev pub block_owns : (R : RattleType) → Ptr → R.Denot → Fml
block_owns = box_owns (ghosts.dealloc_token heap)

-- what a handle owns: an open one its value in a block of its own, a closed one nothing
abbrev pub handle_owns : (R : RattleType) → Bool → Ptr → Option R.Denot → Fml
handle_owns R true p (Some x) = block_owns R p x
handle_owns R true p None = ffalse
handle_owns R false p (Some x) = ffalse
handle_owns R false p None = ftrue
