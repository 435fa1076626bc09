mod ManyPasses
mod SumCrossing
