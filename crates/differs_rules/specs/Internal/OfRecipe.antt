-- How a refusal of the translator's is one over an image.
use Rattle.recipe.specs.declared.Refusal as recipe
use Rattle.differs_rules.specs.declared.Fault.TheVariants.{Recipe}
use Rattle.differs_rules.specs.declared.Refusal.{Refusal}

-- a refusal of the translator's is one over any image, at its place
abbrev pub of_recipe : recipe.Refusal → Refusal
of_recipe r = record { fault = Recipe r.fault; place = r.place }
