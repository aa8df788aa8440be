mod FormLemmas
mod FrontLemmas
mod TextLemmas
mod ReadSpelled
mod ReadBack
mod RewriteLemmas
mod ToldLemmas
