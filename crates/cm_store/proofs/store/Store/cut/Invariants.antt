use Rattle.std.proofs.Common.{◌≡◌, ◌≤◌, ◌++◌, List, length, reverse}
use Rattle.cm_store.specs.PageWords.{PageState}
use Rattle.cm_store.proofs.store.Store.cut.Given as goal

-- what was moved so far
abbrev pub invariant-loop : goal.invariant-loop
invariant-loop l = (l.counter ≤ l.count)
    × ((moved : List PageState) × (length moved ≡ l.counter) × (l.fn.self.pages ≡ l.self.pages ++ moved) × (l.into.pages ≡ l.fn.into.pages ++ reverse moved))
    × (l.self.room ≡ l.fn.self.room) × (l.into.room ≡ l.fn.into.room)
