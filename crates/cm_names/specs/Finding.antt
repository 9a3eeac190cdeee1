-- How faults are found one after another, and which of them is kept.
use Rattle.std.specs.Prelude.{◌≡◌, nat_lt, ◌==◌, Bool, false, not, ◌&&◌, ◌||◌, if◌then◌else◌, List, [], length, Option, None, Some, Contains}
use Rattle.std.specs.List.{fold}
use Rattle.cm_syntax.specs.declared.name.Name.{Name}
use Rattle.cm_syntax.specs.declared.stmt.Function.{Function}
use Rattle.cm_syntax.specs.Resolution.{Use}
use Rattle.cm_syntax.specs.Fault.{Fault, Variant, unknown, twice, arity, kind, no_main, frame, count, rank, fault_at, use_faults, is_faulty_mention}
use Rattle.cm_names.specs.declared.finding.FaultKind.{FaultKind}
use Rattle.cm_names.specs.declared.finding.FaultKind.TheVariants as kinds
use Rattle.cm_names.specs.declared.finding.FoundFault.{FoundFault}
use Rattle.cm_names.specs.Found.{Found}

-- what is wrong, as the language names it
abbrev pub variant_of : FaultKind → Variant
variant_of kinds.Unknown = unknown
variant_of kinds.Twice = twice
variant_of kinds.Arity = arity
variant_of kinds.Kind = kind
variant_of kinds.NoMain = no_main
variant_of kinds.Frame = frame
variant_of kinds.Count = count

-- a fault, as the language has it
abbrev pub fault_of : FoundFault → Fault
fault_of fault = fault_at fault.at (variant_of fault.kind)

-- whether the first fault is answered and not the second one: it stands before it, or at its offset with a variant
-- that stands first
abbrev pub precedes : Fault → Fault → Bool
precedes fault other = nat_lt fault.at other.at || (fault.at == other.at && nat_lt (rank fault.variant) (rank other.variant))

-- what is kept of the kept fault and another one
abbrev pub keep : Option Fault → Fault → Option Fault
keep None fault = Some fault
keep (Some least) fault = if precedes fault least then Some fault else Some least

-- what is kept after these faults
abbrev pub least_fault : Option Fault → List Fault → Option Fault
least_fault least faults = fold keep least faults

-- the fault is among them, and none of them precedes it; where there is none, none is kept
abbrev pub IsLeast : Option Fault → List Fault → Type 0
IsLeast None faults = faults ≡ []
IsLeast (Some fault) faults = Contains faults fault × ((other : Fault) → Contains faults other → precedes other fault ≡ false)

-- after faults that are no mention's
abbrev pub after_faults : Found → List Fault → Found
after_faults found faults = record found { least = least_fault found.least faults }

-- after the faults of a mention
abbrev pub after_mention : Found → List Fault → Found
after_mention found faults = record {
  least = least_fault found.least faults;
  has_faulty_mention = found.has_faulty_mention || not (length faults == 0);
}

module _ (functions : List (Function Name)) (f : Function Name) where
  -- after a use in the function f
  abbrev pub after_use : Found → Use → Found
  after_use found use_ = record {
    least = least_fault found.least (use_faults functions f use_);
    has_faulty_mention = found.has_faulty_mention || is_faulty_mention functions f use_;
  }

  -- after the uses in the function f
  abbrev pub after_uses : Found → List Use → Found
  after_uses found uses = fold after_use found uses
