mod Firsts
mod Places
mod Steps
