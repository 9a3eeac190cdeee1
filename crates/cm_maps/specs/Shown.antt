-- What a page map shows at an address.
use Rattle.std.specs.Prelude.{ℕ, ◌≡◌, ◌+◌, ◌-◌, ◌*◌, ◌/◌, ◌%◌, ◌<◌, slice_get, Some}
use Rattle.cm_maps.specs.Pages.{MapState}
use Rattle.cm_maps.specs.declared.map.TheConstants.{STACK_TOP}

-- the address is in a page of the map, counted from the top of the stack down, and the place is that of its word
abbrev pub Shows : MapState → ℕ → ℕ → Type 0
Shows map address place = (address < STACK_TOP) × ((number : ℕ)
    × (slice_get map.pages ((STACK_TOP - 1 - address) / map.page) ≡ Some number)
    × (place ≡ number * (map.page / 4) + address % map.page / 4))
