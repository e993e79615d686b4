use Rattle.std.proofs.Common.{◌≡◌, length, vec_items, rules, sym, ◌∙◌}
use Rattle.listing.proofs.PlantedForListing.{stopped}
use Rattle.listing.proofs.planning.plant_and_list.Goals as goal

pub returns-in_err-planted : goal.returns-in_err-planted
returns-in_err-planted g c =
    let long : length (vec_items c.in_ok-memory.memory) ≡ 1024 = sym c.in_ok-memory.memory.ok.0 ∙ c.in_ok-memory.ensures.len in
    let why = stopped _ _ _ _ _ _ c.in_err-planted.field-0.0 c.plant-forest.ensures.planted c.in_err-planted.was long in
    search rules
