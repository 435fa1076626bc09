mod RoundLemmas
mod ToldLemmas
mod WorkedTeams
